use Rattle.reachability.specs.ReachLaws.{rank_at_most, rank_falls}
use Rattle.reachability.proofs.laws.ranks_fall.Goals as goal

pub returns-clause-within : goal.returns-clause-within
returns-clause-within c = rank_at_most

pub returns-clause-falls : goal.returns-clause-falls
returns-clause-falls c = rank_falls
