-- Read Reaches, Leads, BitSets and Reach first. Modules whose names end in Laws hold lemmas.
pub mod BitSets
pub mod Leads
pub mod LeadsLaws
pub mod Reach
pub mod Reaches
pub mod ReachesLaws
pub mod ReachLaws
pub mod Rounds
pub mod ViaLaws
