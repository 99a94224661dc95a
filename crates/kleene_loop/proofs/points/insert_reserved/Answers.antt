use Rattle.std.proofs.Common.{◌∙◌, not, sym}
use Rattle.antichain.specs.ListLaws.{inserted_incomparable, inserted_values}
use Rattle.kleene_loop.proofs.points.insert_reserved.Goals as goal

pub returns-clause-members_are_values : goal.returns-clause-members_are_values
returns-clause-members_are_values g c =
    rw (c.in-Ok.ensures.items, c.remove_above.ensures.items)
    (inserted_values (g.O.Order.is_value c.args.order.now) (λ item. not (g.O.Order.leq c.args.order.now c.args.item item)) c.args.members.now.items c.args.item c.requires.members_are_values c.requires.item_is_value)

pub returns-clause-incomparable : goal.returns-clause-incomparable
returns-clause-incomparable g c =
    rw (c.in-Ok.ensures.items, c.remove_above.ensures.items)
    (inserted_incomparable (g.O.Order.leq c.args.order.now) c.args.members.now.items c.args.item c.requires.incomparable (rw (← c.deref.ensures.value) (sym c.some_below.ensures ∙ c.if-some_below.false)))
