pub mod PartLemmas
pub mod TrailLemmas
