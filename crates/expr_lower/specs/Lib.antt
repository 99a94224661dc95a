-- Read Reading first: what an expression is read as, and its faults. Modules whose names end in Laws hold lemmas.
pub mod Literals
pub mod MeaningLaws
pub mod Meanings
pub mod Operands
pub mod Operators
pub mod Reading
pub mod ReadingLaws
pub mod TypedLaws
