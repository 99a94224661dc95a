use Rattle.std.proofs.Common.{◌≡◌, IsTrue, arith}
use Rattle.std.proofs.lemmas.Grind.{common_steps}
use Rattle.std.specs.Prelude.{slice_get}
use Rattle.std.specs.Option.{option_copied}
use Rattle.order_core.specs.IncomparableLaws.{incomparable-left}
use Rattle.kleene_loop.proofs.Answered.{some_first, todo_least, todo_values}
use Rattle.kleene_loop.proofs.climb.Climb.next.Goals as goal

pub returns-clause-least : goal.returns-clause-least
returns-clause-least g c =
    let s = c.self.inside in
    rw (← c.self.view_is)
    (todo_least (g.O.Order.is_value s.order) (g.O.Order.leq s.order) (g.R.Relation.leads s.relation) (g.met.O.Order.laws s.order)
    s.round s.todo.items s.kept.items s.raised.items s.left.items c.self.invariant)

pub returns-clause-new : goal.returns-clause-new
returns-clause-new g c = rw (← c.self.view_is) c.self.invariant.new

pub returns-clause-once : goal.returns-clause-once
returns-clause-once g c =
    let s = c.self.inside in
    rw (← c.self.view_is) (incomparable-left (g.O.Order.leq s.order) s.todo.items _ c.self.invariant.basis.incomparable)

pub returns-clause-value : goal.returns-clause-value
returns-clause-value g c =
    let s = c.self.inside in
    let first : option_copied c.front.result ≡ slice_get c.self.inside.todo.items 0 = grind (arith, common_steps) in
    rw (first, ← c.self.view_is) (some_first (λ x. IsTrue (g.O.Order.is_value s.order x)) s.todo.items
    (todo_values (g.O.Order.is_value s.order) (g.O.Order.leq s.order) (g.R.Relation.leads s.relation) (g.met.O.Order.laws s.order)
    s.round s.todo.items s.kept.items s.raised.items s.left.items c.self.invariant))
