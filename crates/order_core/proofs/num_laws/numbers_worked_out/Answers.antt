use Rattle.std.proofs.Common.{refl}
use Rattle.order_core.proofs.num_laws.numbers_worked_out.Goals as goal

pub returns : goal.returns
returns c = record { sum = refl; greatest_sum = refl; sum_above = refl; product = refl; product_above = refl; nothing = refl; greater = refl; lesser = refl }
