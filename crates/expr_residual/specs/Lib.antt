-- Read Moved first, and then Residual. Modules whose names end in Laws hold lemmas.
pub mod AppendLaws
pub mod AssociativeLaws
pub mod Moved
pub mod MovedLaws
pub mod NumberKindLaws
pub mod Plain
pub mod Residual
pub mod ResidualGrowthLaws
pub mod ResidualLaws
pub mod ResidualTypeLaws
pub mod ResidualValueLaws
