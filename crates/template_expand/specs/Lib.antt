-- Read Trails: what is denoted where arguments lead to.
pub mod Trails
