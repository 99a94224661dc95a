-- Read Files, InMemory, Fault and Bytes first: what objects tell of the bytes that they hold, and how calls fail.
-- Modules whose names end in Laws hold lemmas.
pub mod Bytes
pub mod Fault
pub mod Files
pub mod InMemory
