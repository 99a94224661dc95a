-- Read Decided and AllMet: they are all that the contracts cite beside the model.
pub mod AllMet
pub mod Decided
