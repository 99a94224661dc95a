use Rattle.model_examples.proofs.LifterLemmas as example
use Rattle.model_examples.proofs.examples.lifter_at_95.Goals as goal

pub returns : goal.returns
returns c = record { at_50 = example.feasible_at_50; not_at_10 = example.not_at_10; minima = example.lifter_at_95 }
