use Rattle.reachability.specs.LeadsLaws.{leads_reaches}
use Rattle.reachability.proofs.laws.chains_are_worked_out.Goals as goal

pub returns : goal.returns
returns c = λ n pairs. leads_reaches pairs n
