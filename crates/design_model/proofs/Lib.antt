pub mod AboveLaws
pub mod NumberLemmas
pub mod TupleLaws
