use Rattle.cut_plan.specs.OrderLaws.{order_is}
use Rattle.cut_plan.proofs.laws.order_takes_each_part_once.Goals as goal

pub returns : goal.returns
returns c = order_is
