pub mod KnownPorts
pub mod Outlined
pub mod TypedMeaning
