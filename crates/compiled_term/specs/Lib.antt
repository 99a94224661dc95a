-- Read Wires, Stages and CompiledTerm, in this order. Modules whose names end in Laws hold lemmas.
pub mod CompiledTerm
pub mod CompiledTermLaws
pub mod Joined
pub mod Stages
pub mod Wires
