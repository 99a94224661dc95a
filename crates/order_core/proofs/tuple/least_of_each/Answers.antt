use Rattle.order_core.specs.PartnerLaws.{least_done}
use Rattle.order_core.proofs.tuple.least_of_each.Goals as goal

pub returns : goal.returns
returns g c = least_done g.O.Order.is_value g.O.Order.leq _ _ _ c.loop-part.invariant c.loop-part-test.false
