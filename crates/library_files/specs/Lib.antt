-- Read Names and Taken first: which files of a folder belong to a library, and which limits they keep. Then Parsed: what
-- they write. Branches: which choices have a branch.
-- Modules whose names end in Laws hold lemmas.
pub mod Branches
pub mod Names
pub mod Parsed
pub mod Reading
pub mod Taken
