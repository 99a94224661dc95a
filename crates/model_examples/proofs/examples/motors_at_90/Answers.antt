use Rattle.model_examples.proofs.MotorsLemmas as example
use Rattle.model_examples.proofs.examples.motors_at_90.Goals as goal

pub returns : goal.returns
returns c = example.motors_at_90
