-- Read Measures, Measured and Orders first: depth and size, what is said of them, and the order in which it is found. Then Scales and Limits: the forms that say them. Modules whose names end in Laws hold lemmas.
pub mod Limits
pub mod LimitsLaws
pub mod Measured
pub mod Measures
pub mod MeasuresLaws
pub mod Orders
pub mod Scales
