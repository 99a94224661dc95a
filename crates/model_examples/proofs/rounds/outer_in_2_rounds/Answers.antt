use Rattle.model_examples.proofs.BodySteps.{minimum_at_96, body_moves}
use Rattle.model_examples.proofs.OuterSteps as outer
use Rattle.model_examples.proofs.rounds.outer_in_2_rounds.Goals as goal

pub returns : goal.returns
returns c = record {
  root_is_steady = outer.root_is_steady;
  least_end = outer.least_end;
  met_at_96 = outer.met_at_96;
  not_met_at_95 = outer.not_met_at_95;
  minimum_at_96 = minimum_at_96;
  body_moves = body_moves;
}
