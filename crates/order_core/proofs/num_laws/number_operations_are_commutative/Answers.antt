use Rattle.order_core.specs.NumLaws.{sum_comm, sum_zero, product_comm, product_one}
use Rattle.order_core.proofs.num_laws.number_operations_are_commutative.Goals as goal

pub returns : goal.returns
returns c = record { sum = sum_comm; zero = sum_zero; product = product_comm; one = product_one }
