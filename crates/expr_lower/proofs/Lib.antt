pub mod PartLemmas
pub mod WorkedLemmas
