use Rattle.std.proofs.Common.{◌≡◌}
use Rattle.unit_check.specs.Follow.{follow}
use Rattle.unit_check.specs.Following.{next_at}
use Rattle.unit_check.proofs.declared.follow.Given as goal

-- What is left to follow leads to the same end.
abbrev pub invariant-loop-left : goal.invariant-loop-left
invariant-loop-left l = follow (next_at l.nexts) l.initial.left l.from ≡ follow (next_at l.nexts) l.left l.at

abbrev pub decreases-loop-left : goal.decreases-loop-left
decreases-loop-left l = l.left
