use Rattle.std.proofs.Common.{◌≡◌, ◌∷◌, List, inl, refl, subst, sym}
use Rattle.order_core.specs.Members.{IsMember}
use Rattle.kleene_loop.specs.Ascent.{FirstHas, IsClimb}
use Rattle.kleene_loop.proofs.Answered.{raised_values, todo_values}
use Rattle.kleene_loop.proofs.Steps.{keeps}
use Rattle.kleene_loop.proofs.climb.Climb.keep.Goals as goal

pub remove_above-requires-clause-items_are_values : goal.remove_above-requires-clause-items_are_values
remove_above-requires-clause-items_are_values g c =
    let s = c.self.inside in
    raised_values (g.O.Order.is_value s.order) (g.O.Order.leq s.order) (g.R.Relation.leads s.relation) (g.met.O.Order.laws s.order)
    s.round s.todo.items s.kept.items s.raised.items s.left.items c.self.invariant

pub remove_above-requires-clause-x_is_value : goal.remove_above-requires-clause-x_is_value
remove_above-requires-clause-x_is_value g c =
    let s = c.self.inside in
    let front : c.self.inside.todo.items ≡ c.in-Some.point ∷ c.pop_front.new.self.items = c.in-Some.ensures.items in
    todo_values (g.O.Order.is_value s.order) (g.O.Order.leq s.order) (g.R.Relation.leads s.relation) (g.met.O.Order.laws s.order)
    s.round s.todo.items s.kept.items s.raised.items s.left.items c.self.invariant c.in-Some.point (subst (λ (zs : List g.row.O-Item.Denot). IsMember c.in-Some.point zs) (sym front) (inl refl))

pub invariant_of-self-2 : goal.invariant_of-self-2
invariant_of-self-2 g c =
    let s = c.self.inside in
    let first : FirstHas c.self.inside.todo.items (λ x. g.R.Relation.leads c.self.inside.relation x x) = rw (← c.self.view_is) at c.requires in
    let front : c.self.inside.todo.items ≡ c.in-Some.point ∷ c.pop_front.new.self.items = c.in-Some.ensures.items in
    let here : IsClimb (g.O.Order.is_value c.self.inside.order) (g.O.Order.leq c.self.inside.order) (g.R.Relation.leads c.self.inside.relation) c.self.inside.round (c.in-Some.point ∷ c.pop_front.new.self.items) c.self.inside.kept.items c.self.inside.raised.items c.self.inside.left.items =
    rw front at c.self.invariant in
    let stays : FirstHas (c.in-Some.point ∷ c.pop_front.new.self.items) (λ x. g.R.Relation.leads c.self.inside.relation x x) = rw front at first in
    rw (c.in-Ok.ensures.items, c.reserve.ensures.items, c.remove_above.ensures.items)
    (keeps (g.O.Order.is_value s.order) (g.O.Order.leq s.order) (g.R.Relation.leads s.relation) (g.met.O.Order.laws s.order)
    s.round c.in-Some.point c.pop_front.new.self.items s.kept.items s.raised.items s.left.items here stays)
