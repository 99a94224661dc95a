use Rattle.std.proofs.Common.{◌≤◌, not, IsTrue, drop, vec_capacity}
use Rattle.std.proofs.lemmas.List.Filters.{FiltersInPlace}
use Rattle.std.specs.List.{list_all}
use Rattle.antichain.proofs.scan.remove_above.Given as goal

-- The items to keep, of those seen, stand in front, and the others are as they were.
abbrev pub invariant-loop-at : goal.invariant-loop-at
invariant-loop-at g l =
    FiltersInPlace (λ item. not (g.O.Order.leq l.order l.x item)) l.initial.items.items l.items.items l.kept l.at
    × (vec_capacity l.initial.items ≤ vec_capacity l.items)
    × IsTrue (list_all (g.O.Order.is_value l.order) (drop l.at l.initial.items.items))
