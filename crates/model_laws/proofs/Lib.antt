pub mod AcyclicLemmas
pub mod CycleLemmas
pub mod KindFoldLemmas
