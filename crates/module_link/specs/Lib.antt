-- Read Contents first: what the files of a library say apart from their references. Then Links: its references with their names resolved, and its modules.
pub mod BareLaws
pub mod Contents
pub mod Links
