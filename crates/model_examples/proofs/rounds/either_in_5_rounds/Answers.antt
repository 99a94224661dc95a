use Rattle.model_examples.proofs.EitherShown as example
use Rattle.model_examples.proofs.rounds.either_in_5_rounds.Goals as goal

pub returns : goal.returns
returns c = record {
  fixed_minimum = example.nine_minimum;
  loop_minimum = example.five_minimum;
  fixed_shown = example.nine_shown;
  loop_not_shown = example.five_not_shown;
  loop_met = example.loop_met;
  loop_moves = example.loop_moves;
}
