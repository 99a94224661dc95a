use Rattle.model_laws.specs.NetLaws.{net_steady_at_once}
use Rattle.model_laws.proofs.rounds.nets_without_cut_signals_are_steady.Goals as goal

pub returns : goal.returns
returns c = net_steady_at_once
