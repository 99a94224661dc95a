pub mod KindBoundLemmas
pub mod PortKindLemmas
