use Rattle.std.proofs.Common.{◌≡◌, drop, IsTrue}
use Rattle.std.specs.List.{list_all}
use Rattle.order_core.specs.Finite.{is_element, is_below}
use Rattle.order_core.specs.Order.{apart}
use Rattle.order_core.proofs.upper.is_apart.Given as goal

-- What is left decides, and is of elements.
abbrev pub invariant-loop-other : goal.invariant-loop-other
invariant-loop-other l = record {
  decides : list_all (apart (is_below l.base.table) l.element) l.others ≡ list_all (apart (is_below l.base.table) l.element) (drop l.other-index l.others);
  left : IsTrue (list_all (is_element l.base.table) (drop l.other-index l.others));
}
