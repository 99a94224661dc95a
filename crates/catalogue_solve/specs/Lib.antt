-- Read Enough first: which rows a catalogue asks of, and what its answer is. Numbers says which ports are of numbers alone.
pub mod Enough
pub mod Numbers
