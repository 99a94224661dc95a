pub mod Cutting
pub mod Longest
pub mod Over
pub mod PlacedLemmas
pub mod Short
pub mod StartLemmas
