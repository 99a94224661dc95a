use Rattle.model_examples.proofs.ClimbSteps as example
use Rattle.model_examples.proofs.examples.climb_at_4.Goals as goal

pub returns : goal.returns
returns c = record { signals = example.climb_signals; ends = example.climb_ends; moves = example.climb_moves }
