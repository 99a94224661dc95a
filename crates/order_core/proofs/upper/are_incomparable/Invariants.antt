use Rattle.std.proofs.Common.{◌≡◌, drop, IsTrue}
use Rattle.std.specs.List.{list_all}
use Rattle.order_core.specs.Finite.{is_element, is_below}
use Rattle.order_core.specs.Order.{are_incomparable}
use Rattle.order_core.proofs.upper.are_incomparable.Given as goal

-- What is left decides, and is of elements.
abbrev pub invariant-loop-at : goal.invariant-loop-at
invariant-loop-at l = record {
  decides : are_incomparable (is_below l.base.table) l.elements ≡ are_incomparable (is_below l.base.table) (drop l.at l.elements);
  left : IsTrue (list_all (is_element l.base.table) (drop l.at l.elements));
}
