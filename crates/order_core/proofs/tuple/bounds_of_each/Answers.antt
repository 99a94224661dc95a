use Rattle.std.proofs.Common.{arith}
use Rattle.order_core.specs.PartnerLaws.{are_values_length, bounds_done}
use Rattle.order_core.proofs.tuple.bounds_of_each.Goals as goal

pub loop-at-init : goal.loop-at-init
loop-at-init g c = record {
  xs_length = are_values_length g.O.Order.is_value _ _ c.requires.xs_are_values;
  ys_length = are_values_length g.O.Order.is_value _ _ c.requires.ys_are_values;
  xs_values = c.requires.xs_are_values;
  ys_values = c.requires.ys_are_values;
  bounds = λ rest h. rw c.new-made.ensures.items h;
}

pub returns : goal.returns
returns g c =
    bounds_done g.O.Order.is_value g.O.Order.leq _ _ _ _ _ c.loop-at.invariant.bounds c.loop-at-test.false
    (omega (arith, c.loop-at.invariant.xs_length)) (omega (arith, c.loop-at.invariant.ys_length))
