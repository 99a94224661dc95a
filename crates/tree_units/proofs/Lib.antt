pub mod Decimals
pub mod ItemLemmas
pub mod PortLevels
pub mod PortMeanings
pub mod PortParts
pub mod TypeInduction
pub mod UnitSizes
