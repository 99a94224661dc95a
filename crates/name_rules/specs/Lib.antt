-- Read Places, Twice, Known, References and Unknown first. Modules whose names end in Laws hold lemmas.
pub mod Known
pub mod Places
pub mod ReferenceNamesLaws
pub mod References
pub mod Sizes
pub mod Twice
pub mod Unknown
