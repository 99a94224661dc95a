use Rattle.std.proofs.Common.{◌≡◌, ◌∙◌, ap}
use Rattle.order_core.specs.Tuple.{product}
use Rattle.order_core.specs.ProductLaws.{product_bounds}
use Rattle.order_core.proofs.tuple.TupleOrderOrder.bounds.Goals as goal

pub returns : goal.returns
returns g c =
    let all : c.of.result ≡ product c.in_ok-choices.choices.items = c.of.ensures ∙ c.in_ok-product_of.ensures ∙ ap product c.as_slice.ensures.value in
    rw all (rw (c.items-parts.ensures, c.items.ensures, c.items-2.ensures) at (product_bounds g.O.Order.is_value g.O.Order.leq _ _ _ _ c.in_ok-choices.ensures))
