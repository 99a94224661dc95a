use Rattle.model_laws.specs.NetLaws.{net_ends_rise, net_ends_fall}
use Rattle.model_laws.proofs.rounds.chains_fall_and_rise.Goals as goal

pub returns : goal.returns
returns c = record { rise = net_ends_rise; fall = net_ends_fall }
