-- Read Minima first: the minimal items of a list, and what an insert makes of it. Then Basis and Covers, which say what
-- a list has to do with a set. The modules whose names end in Laws hold lemmas.
pub mod Basis
pub mod BasisLaws
pub mod CoverLaws
pub mod Covers
pub mod InsertedLaws
pub mod ListLaws
pub mod Minima
