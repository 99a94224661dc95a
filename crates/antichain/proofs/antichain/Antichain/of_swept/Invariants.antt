use Rattle.std.proofs.Common.{◌≡◌, [], drop, length, take}
use Rattle.antichain.specs.Minima.{inserted_all}
use Rattle.antichain.proofs.Swept.{LastDecides}
use Rattle.antichain.proofs.antichain.Antichain.of_swept.Given as goal

-- The members are what inserting the items so far makes, and the last one decides.
abbrev pub invariant-loop-item : goal.invariant-loop-item
invariant-loop-item g l = record {
  members : l.made.items ≡ inserted_all (g.O.Order.leq l.order) [] (take (length l.yielded) l.fn.items);
  decides : LastDecides (g.O.Order.leq l.order) l.made.items (drop (length l.yielded) l.fn.items);
}
