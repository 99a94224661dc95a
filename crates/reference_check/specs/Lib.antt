-- Read Fronts and LibraryFronts: what references need to know, of files and of a library.
pub mod Fronts
pub mod LibraryFronts
