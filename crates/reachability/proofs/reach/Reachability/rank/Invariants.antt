use Rattle.std.proofs.Common.{◌≡◌, length}
use Rattle.order_core.specs.NumbersBelow.{numbers_below}
use Rattle.reachability.specs.Reach.{reach}
use Rattle.reachability.proofs.reach.Reachability.rank.Given as goal

-- The numbers so far are counted.
abbrev pub invariant-loop-number : goal.invariant-loop-number
invariant-loop-number l = l.count ≡ length (numbers_below l.number (reach l.self l.a))
