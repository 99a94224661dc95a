pub mod LinkLemmas
pub mod SoundLemmas
