use Rattle.design_model.specs.Steady.{MayCarryIn}
use Rattle.model_laws.specs.SettledLaws.{settled_is_feasible}
use Rattle.model_laws.proofs.rounds.settled_states_are_feasible.Goals as goal

pub returns : goal.returns
returns c = λ t n net f state carried typed fits by feasible. settled_is_feasible t net.provides net.requires_ net.parts net.constraints (MayCarryIn t n net) f state carried typed fits by feasible
