use Rattle.value_type.specs.KindOrderLaws.{kind_laws}
use Rattle.value_type.proofs.laws.values_are_in_order.Goals as goal

pub returns : goal.returns
returns c = λ t k. kind_laws t k
