-- Read Pieces and Cut first: what a token is, and how a text is cut into tokens; then Syntax. Modules whose names end
-- in Laws hold lemmas.
pub mod AsciiLaws
pub mod Cut
pub mod CutLaws
pub mod Pieces
pub mod Scan
pub mod Sides
pub mod StartLaws
pub mod Starts
pub mod Syntax
