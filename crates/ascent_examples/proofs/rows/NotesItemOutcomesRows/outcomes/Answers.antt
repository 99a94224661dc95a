use Rattle.std.proofs.Common.{◌≡◌, refl, subst, List}
use Rattle.order_core.specs.Members.{IsMember}
use Rattle.antichain.specs.Basis.{IsBasis}
use Rattle.ascent_examples.specs.Rows.{ends_from}
use Rattle.ascent_examples.proofs.RowLemmas.{ends_are, ends_basis}
use Rattle.ascent_examples.proofs.rows.NotesItemOutcomesRows.outcomes.Goals as goal

pub of-requires-2 : goal.of-requires-2
of-requires-2 g c =
    rw (c.of.ensures, c.in_ok-found.ensures, c.items.ensures)
    (ends_are (g.O.Order.is_value c.args.order.now) (g.O.Order.leq c.args.order.now) (g.met.O.Order.laws c.args.order.now) c.args.relation.now.steps c.requires.suits.1 c.args.point.now)

pub returns-clause-basis : goal.returns-clause-basis
returns-clause-basis g c =
    let found : c.of.result ≡ ends_from (g.O.Order.leq c.args.order.now) c.args.relation.now.steps c.args.point.now = rw (c.of.ensures, c.in_ok-found.ensures, c.items.ensures) refl in
    rw (c.into_list.ensures, c.requires.suits.0)
    (ends_basis (g.O.Order.is_value c.args.order.now) (g.O.Order.leq c.args.order.now) (g.met.O.Order.laws c.args.order.now) c.args.relation.now.steps c.requires.suits.1 c.args.point.now c.in_ok-of.field-0
    (subst (λ (zs : List g.row.O-Item.Denot). IsBasis (g.O.Order.leq c.args.order.now) (λ y. IsMember y zs) c.in_ok-of.field-0) found c.in_ok-of.ensures.basis))
