pub mod BitSetLemmas
pub mod RoundLemmas
pub mod RowLemmas
