use Rattle.std.proofs.Common.{◌≡◌, ◌+◌, ◌≤◌, IsTrue, reverse, vec_capacity, vec_len}
use Rattle.std.specs.List.{list_all}
use Rattle.order_core.specs.Order.{are_incomparable}
use Rattle.antichain.specs.Minima.{inserted_all}
use Rattle.kleene_loop.proofs.points.insert_all_reserved.Given as goal

-- what is left, inserted into the members so far, gives what all gives; the members are an antichain of values, with room for what is left
abbrev pub invariant-loop-item : goal.invariant-loop-item
invariant-loop-item g l =
    (inserted_all (g.O.Order.leq l.order) l.members.items (reverse l.items.items) ≡ inserted_all (g.O.Order.leq l.order) l.initial.members.items (reverse l.initial.items.items))
    × IsTrue (list_all (g.O.Order.is_value l.order) l.members.items)
    × IsTrue (are_incomparable (g.O.Order.leq l.order) l.members.items)
    × IsTrue (list_all (g.O.Order.is_value l.order) l.items.items)
    × (vec_len l.members + vec_len l.items ≤ vec_capacity l.members)

abbrev pub decreases-loop-item : goal.decreases-loop-item
decreases-loop-item g l = vec_len l.items
