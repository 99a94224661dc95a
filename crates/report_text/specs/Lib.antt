-- Read Texts first: the texts of values and of rows. Modules whose names end in Laws hold lemmas.
pub mod CountLaws
pub mod Counts
pub mod Texts
