-- Read Sources and Denotes first: what a library says, and the design that a reference denotes; then Ranked. Modules
-- whose names end in Laws hold lemmas.
pub mod BindingLaws
pub mod Denotes
pub mod DenotesLaws
pub mod Linking
pub mod LinkingLaws
pub mod Modules
pub mod Ranked
pub mod Sources
