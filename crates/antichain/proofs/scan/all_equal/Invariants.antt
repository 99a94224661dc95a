use Rattle.std.proofs.Common.{◌≡◌, drop}
use Rattle.std.specs.List.{list_all}
use Rattle.antichain.specs.Basis.{has_equal}
use Rattle.antichain.proofs.scan.all_equal.Given as goal

-- what is left decides
abbrev pub invariant-loop-item : goal.invariant-loop-item
invariant-loop-item g l =
    list_all (has_equal (g.O.Order.leq l.order) l.others) l.items ≡ list_all (has_equal (g.O.Order.leq l.order) l.others) (drop l.item-index l.items)
