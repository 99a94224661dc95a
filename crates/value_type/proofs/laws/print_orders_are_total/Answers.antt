use Rattle.value_type.specs.PrintLaws.{value_same, value_total, row_same, row_total}
use Rattle.value_type.proofs.laws.print_orders_are_total.Goals as goal

pub returns : goal.returns
returns c = record { values = value_total; same_value = value_same; rows = row_total; same_row = row_same }
