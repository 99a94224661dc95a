-- Read Ascent first, from IsAscent on: what an ascent hands out. Held is what callers see of one that goes on, and New says
-- which of its points are new. Chains of order_core has the chains of a relation. The modules whose names end in Laws hold lemmas.
pub mod Ascent
pub mod FirstLaws
pub mod Held
pub mod New
pub mod SettledLaws
