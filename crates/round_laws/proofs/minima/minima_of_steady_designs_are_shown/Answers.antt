use Rattle.round_laws.proofs.SteadyShown.{steady_is_shown}
use Rattle.round_laws.proofs.minima.minima_of_steady_designs_are_shown.Goals as goal

pub returns : goal.returns
returns c = steady_is_shown
