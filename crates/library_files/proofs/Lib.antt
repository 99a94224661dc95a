pub mod NameLemmas
pub mod ReadingLemmas
pub mod TakenLemmas
pub mod SortedLemmas
pub mod ParsedLemmas
pub mod OneWayLemmas
pub mod FaultLemmas
pub mod BranchLemmas
