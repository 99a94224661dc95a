use Rattle.round_laws.proofs.ShownFeasible.{shown_is_feasible, shown_is_minimum}
use Rattle.round_laws.proofs.minima.shown_minima_are_feasible.Goals as goal

pub returns : goal.returns
returns c = record { feasible = shown_is_feasible; minimum = shown_is_minimum }
