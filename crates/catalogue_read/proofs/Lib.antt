pub mod FileLemmas
pub mod RowFaultLemmas
