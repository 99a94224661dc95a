-- Read Outcome first: what a run answers. Then Report and Words.
pub mod Library
pub mod Lines
pub mod OneWay
pub mod Outcome
pub mod Report
pub mod Words
