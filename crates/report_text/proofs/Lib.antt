pub mod JoinedLemmas
pub mod TextLemmas
