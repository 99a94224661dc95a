mod FindLemmas
mod GivenLemmas
mod LinkLemmas
mod ModuleLemmas
mod ResolveLemmas
