use Rattle.std.proofs.Common.{◌≡◌, drop}
use Rattle.antichain.specs.Basis.{has_equal}
use Rattle.antichain.proofs.scan.some_equal.Given as goal

-- what is left decides
abbrev pub invariant-loop-item : goal.invariant-loop-item
invariant-loop-item g l = has_equal (g.O.Order.leq l.order) l.items l.x ≡ has_equal (g.O.Order.leq l.order) (drop l.item-index l.items) l.x
