-- Read Units, Constants, Elements and Ports first: what units, constants, elements and types of ports mean, and their
-- faults. Modules whose names end in Laws hold lemmas.
pub mod ConstantLaws
pub mod Constants
pub mod DecidedLaws
pub mod ElementLaws
pub mod Elements
pub mod Ports
pub mod Posets
pub mod Together
pub mod TogetherLaws
pub mod Units
