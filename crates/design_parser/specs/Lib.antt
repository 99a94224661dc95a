-- Read Grammar first, from its end: the productions, the smallest first. Then Answers: what the parser answers.
-- Modules whose names end in Laws hold lemmas.
pub mod Answers
pub mod Depth
pub mod Grammar
pub mod Lists
pub mod Readers
pub mod Trees
