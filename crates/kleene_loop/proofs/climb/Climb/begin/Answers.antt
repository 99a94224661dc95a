use Rattle.std.proofs.Common.{IsTrue}
use Rattle.antichain.specs.BasisLaws.{least_basis, member_of_minimal, minimal_member}
use Rattle.kleene_loop.proofs.Steps.{begins}
use Rattle.kleene_loop.proofs.climb.Climb.begin.Goals as goal

pub invariant_of-result : goal.invariant_of-result
invariant_of-result g c = rw (c.from-todo.ensures.0, c.into_vec.ensures, c.new.ensures.items, c.new-2.ensures.items, c.new-3.ensures.items)
    (begins (g.O.Order.is_value c.args.order) (g.O.Order.leq c.args.order) (g.R.Relation.leads c.args.relation) (g.met.O.Order.laws c.args.order) c.requires c.in_ok-least.field-0 c.in_ok-least.ensures)

pub returns-clause-todo : goal.returns-clause-todo
returns-clause-todo g c =
    let is_value = g.O.Order.is_value c.args.order in
    let leq = g.O.Order.leq c.args.order in
    let laws = g.met.O.Order.laws c.args.order in
    let basis = least_basis is_value leq laws c.in_ok-least.field-0 c.in_ok-least.ensures in
    rw (c.from-todo.ensures.0, c.into_vec.ensures)
    (λ x. (minimal_member is_value leq laws (λ y. IsTrue (is_value y)) c.in_ok-least.field-0 (λ y h. h) basis x, member_of_minimal is_value leq laws (λ y. IsTrue (is_value y)) c.in_ok-least.field-0 (λ y h. h) basis x))
