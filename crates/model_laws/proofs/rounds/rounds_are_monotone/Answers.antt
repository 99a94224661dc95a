use Rattle.model_laws.specs.RoundsMonotoneLaws.{feasible_in_eased}
use Rattle.model_laws.proofs.rounds.rounds_are_monotone.Goals as goal

pub returns : goal.returns
returns c = feasible_in_eased
