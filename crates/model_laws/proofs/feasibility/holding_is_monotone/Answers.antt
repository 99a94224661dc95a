use Rattle.model_laws.specs.HoldsMonotoneLaws.{holds_eased, feasible_eased}
use Rattle.model_laws.proofs.feasibility.holding_is_monotone.Goals as goal

pub returns : goal.returns
returns c = record { holds = holds_eased; feasible = feasible_eased }
