-- Read Faults, Answers and FirstBad first. Modules whose names end in Laws hold lemmas.
pub mod Answers
pub mod AnswersLaws
pub mod Faults
pub mod FaultLaws
pub mod FirstBad
pub mod FirstBadLaws
pub mod RestLaws
