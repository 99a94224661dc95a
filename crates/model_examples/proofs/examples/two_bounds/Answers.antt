use Rattle.model_examples.proofs.TwoBoundsLemmas as example
use Rattle.model_examples.proofs.examples.two_bounds.Goals as goal

pub returns : goal.returns
returns c = example.bounds_of_two
