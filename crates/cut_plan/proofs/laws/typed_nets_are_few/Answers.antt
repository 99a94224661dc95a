use Rattle.cut_plan.specs.NetsLaws.{typed_net_is_few}
use Rattle.cut_plan.proofs.laws.typed_nets_are_few.Goals as goal

pub returns : goal.returns
returns c = record { parts = λ t d typed net. (typed_net_is_few t d typed net).0; ports = λ t d typed net. (typed_net_is_few t d typed net).1 }
