use Rattle.model_examples.proofs.OnceSteps.{once_typed, once_height, once_moves}
use Rattle.model_examples.proofs.rounds.one_round_less_is_not_enough.Goals as goal

pub returns : goal.returns
returns c = record { typed = once_typed; height = once_height; moves = once_moves }
