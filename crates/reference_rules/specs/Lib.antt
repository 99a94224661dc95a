-- Read Outlines, ReferenceFaults and TypedFiles. Modules whose names end in Laws hold lemmas.
pub mod Outlines
pub mod ReferenceFaults
pub mod ReferenceLaws
pub mod TypedFiles
