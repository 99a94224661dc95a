use Rattle.std.proofs.Common.{◌≡◌, [], length, take}
use Rattle.antichain.specs.Minima.{inserted_all}
use Rattle.antichain.proofs.antichain.Antichain.of_ordered.Given as goal

-- The members are what inserting the items so far makes.
abbrev pub invariant-loop-item : goal.invariant-loop-item
invariant-loop-item g l = l.made.items ≡ inserted_all (g.O.Order.leq l.order) [] (take (length l.yielded) l.fn.items)
