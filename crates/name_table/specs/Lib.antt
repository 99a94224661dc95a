-- Read Files, Listing, Orders, References and NameFaults first: what the names of a library are, and what is wrong with them. Then Library: what is kept of them. Modules whose names end in Laws hold lemmas.
pub mod Files
pub mod Found
pub mod Library
pub mod Listing
pub mod NameFaults
pub mod Orders
pub mod PartnerLaws
pub mod Ranks
pub mod References
pub mod SmallLaws
pub mod Stems
