use Rattle.round_laws.proofs.LeastEnds.{steady_or_climbs}
use Rattle.round_laws.proofs.steps.nets_are_steady_or_climb.Goals as goal

pub returns : goal.returns
returns c = λ t n k net f typed fits. steady_or_climbs t n net f typed fits k
