use Rattle.model_laws.specs.NetLaws.{net_steps_monotone}
use Rattle.model_laws.proofs.rounds.steps_are_monotone.Goals as goal

pub returns : goal.returns
returns c = net_steps_monotone
