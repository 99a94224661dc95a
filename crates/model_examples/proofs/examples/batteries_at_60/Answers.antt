use Rattle.model_examples.proofs.BatteriesLemmas as example
use Rattle.model_examples.proofs.examples.batteries_at_60.Goals as goal

pub returns : goal.returns
returns c = example.batteries_at_60
