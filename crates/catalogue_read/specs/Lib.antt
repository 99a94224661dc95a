-- Read Catalogues first: the rows of a file, and what is wrong with them.
pub mod Catalogues
pub mod Held
