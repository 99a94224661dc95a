use Rattle.std.proofs.Common.{refl}
use Rattle.model_laws.specs.StepLaws.{states_in_order}
use Rattle.model_laws.proofs.rounds.states_are_rows.Goals as goal

pub returns : goal.returns
returns c = record { fit = λ t net s. refl; compare = λ t net s u. refl; order = states_in_order }
