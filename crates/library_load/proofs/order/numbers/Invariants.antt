use Rattle.std.proofs.Common.{◌≡◌}
use Rattle.library_load.proofs.OrderLemmas.{all_below}
use Rattle.library_load.proofs.order.numbers.Given as goal

-- the numbers so far
abbrev pub invariant-loop-number : goal.invariant-loop-number
invariant-loop-number l = l.made.items ≡ all_below l.number
