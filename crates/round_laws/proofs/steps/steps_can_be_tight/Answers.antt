use Rattle.round_laws.proofs.TightSteps.{tight_step}
use Rattle.round_laws.proofs.steps.steps_can_be_tight.Goals as goal

pub returns : goal.returns
returns c = λ t n net f x y typed fits step. tight_step t n net f typed fits x y step
