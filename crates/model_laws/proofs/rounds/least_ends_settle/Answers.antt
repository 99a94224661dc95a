use Rattle.model_laws.specs.NetLaws.{least_steps, net_stays}
use Rattle.model_laws.proofs.rounds.least_ends_settle.Goals as goal

pub returns : goal.returns
returns c = record { steps = least_steps; stays = net_stays }
