-- Read Ratio, Rounding, Dimension, Measure and UnitTable first: fractions, how they are rounded, dimensions, units
-- and their table. Modules whose names end in Laws hold lemmas.
pub mod Dimension
pub mod DimensionLaws
pub mod FractionLaws
pub mod Fractions
pub mod Gcd
pub mod GcdLaws
pub mod InRange
pub mod InRangeLaws
pub mod Measure
pub mod Range
pub mod Ratio
pub mod RatioLaws
pub mod Results
pub mod Rounding
pub mod RoundingLaws
pub mod UnitTable
