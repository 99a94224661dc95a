use Rattle.std.proofs.Common.{◌≡◌, ◌∷◌, List, inl, refl, subst, suc, sym}
use Rattle.order_core.specs.Chains.{EndsChain}
use Rattle.order_core.specs.IncomparableLaws.{incomparable-left}
use Rattle.order_core.specs.Members.{IsMember}
use Rattle.kleene_loop.specs.Ascent.{AreFound, FirstHas, IsClimb}
use Rattle.kleene_loop.specs.Held.{Held}
use Rattle.kleene_loop.proofs.Answered.{raised_values, todo_values}
use Rattle.kleene_loop.proofs.Raising.{raised_by_found}
use Rattle.kleene_loop.proofs.Steps.{leaves}
use Rattle.kleene_loop.proofs.climb.Climb.let_go.Goals as goal

pub insert_all_reserved-requires-clause-members_are_values : goal.insert_all_reserved-requires-clause-members_are_values
insert_all_reserved-requires-clause-members_are_values g c =
    let s = c.self.inside in
    rw c.reserve-2.ensures.items (raised_values (g.O.Order.is_value s.order) (g.O.Order.leq s.order) (g.R.Relation.leads s.relation) (g.met.O.Order.laws s.order)
    s.round s.todo.items s.kept.items s.raised.items s.left.items c.self.invariant)

pub insert_all_reserved-requires-clause-incomparable : goal.insert_all_reserved-requires-clause-incomparable
insert_all_reserved-requires-clause-incomparable g c =
    let s = c.self.inside in
    rw c.reserve-2.ensures.items (incomparable-left (g.O.Order.leq s.order) s.raised.items s.kept.items c.self.invariant.incomparable)

pub invariant_of-self-2 : goal.invariant_of-self-2
invariant_of-self-2 g c =
    let s = c.self.inside in
    let gone : FirstHas c.self.inside.todo.items (λ x. EndsChain (g.O.Order.is_value c.self.inside.order) (g.O.Order.leq c.self.inside.order) (g.R.Relation.leads c.self.inside.relation) (suc c.self.inside.round) x → ⊥) =
    subst (λ (v : Held g.row.O.Denot g.row.R.Denot g.row.O-Item.Denot). FirstHas v.todo (λ x. EndsChain (g.O.Order.is_value v.order) (g.O.Order.leq v.order) (g.R.Relation.leads v.relation) (suc v.round) x → ⊥)) (sym c.self.view_is) c.requires.goes in
    let found : FirstHas c.self.inside.todo.items (λ x. AreFound (g.O.Order.is_value c.self.inside.order) (g.O.Order.leq c.self.inside.order) (g.R.Relation.leads c.self.inside.relation) x c.self.inside.kept.items c.args.found.items) =
    subst (λ (v : Held g.row.O.Denot g.row.R.Denot g.row.O-Item.Denot). FirstHas v.todo (λ x. AreFound (g.O.Order.is_value v.order) (g.O.Order.leq v.order) (g.R.Relation.leads v.relation) x v.kept c.args.found.items)) (sym c.self.view_is) c.requires.found in
    let front : c.self.inside.todo.items ≡ c.in-Some.point ∷ c.pop_front.new.self.items = c.in-Some.ensures.items in
    let here : IsClimb (g.O.Order.is_value c.self.inside.order) (g.O.Order.leq c.self.inside.order) (g.R.Relation.leads c.self.inside.relation) c.self.inside.round (c.in-Some.point ∷ c.pop_front.new.self.items) c.self.inside.kept.items c.self.inside.raised.items c.self.inside.left.items =
    rw front at c.self.invariant in
    let goes : FirstHas (c.in-Some.point ∷ c.pop_front.new.self.items) (λ x. EndsChain (g.O.Order.is_value c.self.inside.order) (g.O.Order.leq c.self.inside.order) (g.R.Relation.leads c.self.inside.relation) (suc c.self.inside.round) x → ⊥) = rw front at gone in
    let at : FirstHas (c.in-Some.point ∷ c.pop_front.new.self.items) (λ x. AreFound (g.O.Order.is_value c.self.inside.order) (g.O.Order.leq c.self.inside.order) (g.R.Relation.leads c.self.inside.relation) x c.self.inside.kept.items c.args.found.items) = rw front at found in
    let value = todo_values (g.O.Order.is_value s.order) (g.O.Order.leq s.order) (g.R.Relation.leads s.relation) (g.met.O.Order.laws s.order)
    s.round s.todo.items s.kept.items s.raised.items s.left.items c.self.invariant c.in-Some.point (subst (λ (zs : List g.row.O-Item.Denot). IsMember c.in-Some.point zs) (sym front) (inl refl)) in
    rw (c.in-Ok.ensures.items, c.reserve.ensures.items, c.insert_all_reserved.ensures, c.reserve-2.ensures.items)
    (leaves (g.O.Order.is_value s.order) (g.O.Order.leq s.order) (g.R.Relation.leads s.relation) (g.met.O.Order.laws s.order)
    s.round c.in-Some.point c.pop_front.new.self.items s.kept.items s.raised.items s.left.items here goes _
    (raised_by_found (g.O.Order.is_value s.order) (g.O.Order.leq s.order) (g.R.Relation.leads s.relation) (g.met.O.Order.laws s.order)
    s.round s.todo.items s.kept.items s.raised.items s.left.items c.self.invariant c.in-Some.point value c.args.found.items at))
