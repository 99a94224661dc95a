pub mod Backwards
pub mod Equals
pub mod MinimaLaws
pub mod MinimaLemmas
pub mod Ordered
pub mod Raises
pub mod Swept
