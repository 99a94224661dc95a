-- Read Sides first: the ports of a side, and how they are found. Modules whose names end in Laws hold lemmas.
pub mod Held
pub mod SideLaws
pub mod Sides
