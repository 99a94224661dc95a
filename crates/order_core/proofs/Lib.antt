pub mod ChainLemmas
pub mod ClosingSteps
pub mod Growth
pub mod MinimalLaws
pub mod MinimalListed
pub mod MinimalSteps
pub mod PointwiseLemmas
pub mod ProductLemmas
