pub mod GivenLemmas
pub mod JoinLemmas
pub mod NumberLemmas
pub mod StageLemmas
pub mod StagesLemmas
