use Rattle.order_core.specs.NumLaws.{greater_monotone, lesser_monotone, sum_monotone, product_monotone}
use Rattle.order_core.proofs.num_laws.number_operations_are_monotone.Goals as goal

pub returns : goal.returns
returns c = record { greater = greater_monotone; lesser = lesser_monotone; sum = sum_monotone; product = product_monotone }
