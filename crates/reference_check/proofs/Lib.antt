pub mod FrontLemmas
pub mod GivenLemmas
pub mod MatchLemmas
pub mod ReferenceLemmas
pub mod ScopeLemmas
