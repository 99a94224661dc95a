use Rattle.model_laws.specs.FeasibleRoundsLaws.{feasible_in_rounds}
use Rattle.model_laws.proofs.rounds.feasible_rows_are_feasible_in_rounds.Goals as goal

pub returns : goal.returns
returns c = feasible_in_rounds
