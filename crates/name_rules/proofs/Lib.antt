pub mod NoteLemmas
pub mod ReferenceLemmas
pub mod TwiceLemmas
pub mod UnknownLemmas
