-- Read Names and Places first. Modules whose names end in Laws hold lemmas.
pub mod Entries
pub mod NameLaws
pub mod Names
pub mod PlaceLaws
pub mod Places
