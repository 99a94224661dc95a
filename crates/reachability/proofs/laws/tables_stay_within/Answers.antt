use Rattle.reachability.specs.ReachLaws.{reach_within}
use Rattle.reachability.proofs.laws.tables_stay_within.Goals as goal

pub returns : goal.returns
returns c = reach_within
