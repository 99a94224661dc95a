-- Read Designs and Accepted first: the design of a name, and when a library is accepted. Then Loaded: what a folder's
-- files are loaded as.
pub mod Accepted
pub mod Designs
pub mod Limits
pub mod Loaded
pub mod Named
pub mod Stages
