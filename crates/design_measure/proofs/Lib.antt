pub mod DenotedLemmas
pub mod FormLemmas
pub mod LimitsFit
pub mod LinearLemmas
pub mod MeasuredLemmas
pub mod TableLemmas
pub mod ToldLemmas
