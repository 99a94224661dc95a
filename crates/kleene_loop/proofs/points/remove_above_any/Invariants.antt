use Rattle.std.proofs.Common.{not, IsTrue, drop}
use Rattle.std.proofs.lemmas.List.Filters.{FiltersInPlace}
use Rattle.std.specs.List.{list_all, list_any}
use Rattle.kleene_loop.proofs.points.remove_above_any.Given as goal

-- The items to keep, of those seen, stand in front, and the others are as they were.
abbrev pub invariant-loop-at : goal.invariant-loop-at
invariant-loop-at g l =
    FiltersInPlace (λ item. not (list_any (λ other. g.O.Order.leq l.order other item) l.others)) l.initial.items.items l.items.items l.kept l.at
    × IsTrue (list_all (g.O.Order.is_value l.order) (drop l.at l.initial.items.items))
