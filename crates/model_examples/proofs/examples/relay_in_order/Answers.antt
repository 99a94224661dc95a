use Rattle.model_examples.proofs.RelayLemmas as example
use Rattle.model_examples.proofs.examples.relay_in_order.Goals as goal

pub returns : goal.returns
returns c = record { order = example.relay_order; uncut = example.relay_uncut }
