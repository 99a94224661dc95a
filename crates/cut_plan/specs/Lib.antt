-- Read Nets and OrderOf first: designs as nets, and orders of parts. The other modules say what the code works out on
-- the way. Modules whose names end in Laws hold lemmas.
pub mod CutReads
pub mod Cutting
pub mod Different
pub mod MostLaws
pub mod Nets
pub mod NetsLaws
pub mod OrderLaws
pub mod OrderOf
pub mod ReadLaws
pub mod Reads
pub mod SignalLaws
pub mod Totals
pub mod TurnLaws
pub mod Turns
