use Rattle.std.proofs.Common.{◌≡◌, [], IsTrue}
use Rattle.std.specs.List.{list_all}
use Rattle.order_core.specs.Order.{are_incomparable}
use Rattle.antichain.specs.Minima.{inserted_all}
use Rattle.antichain.proofs.antichain.Antichain.of.Given as goal

-- The members are what inserting the items so far makes, and an antichain of values.
abbrev pub invariant-loop-item : goal.invariant-loop-item
invariant-loop-item g l =
    (l.made ≡ inserted_all (g.O.Order.leq l.order) [] l.yielded)
    × IsTrue (list_all (g.O.Order.is_value l.order) l.made)
    × IsTrue (are_incomparable (g.O.Order.leq l.order) l.made)
