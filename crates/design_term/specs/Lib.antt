-- Read Outcomes first: what a term relates. Then TermTypes: when a term is typed. Modules whose names end in Laws
-- hold lemmas.
pub mod FoundLaws
pub mod MonotoneLaws
pub mod Outcomes
pub mod OutcomesLaws
pub mod PrimLaws
pub mod TermLaws
pub mod TermTypes
pub mod TermTypesLaws
