use Rattle.order_core.specs.NumLaws.{greater_number, lesser_number, sum_number, product_number}
use Rattle.order_core.proofs.num_laws.numbers_make_numbers.Goals as goal

pub returns : goal.returns
returns c = record { greater = greater_number; lesser = lesser_number; sum = sum_number; product = product_number }
