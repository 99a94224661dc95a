pub mod Cancelling
pub mod Exponents
pub mod MeasureLemmas
pub mod RatioLemmas
