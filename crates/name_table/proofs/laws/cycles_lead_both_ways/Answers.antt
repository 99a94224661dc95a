use Rattle.std.specs.Prelude.{length}
use Rattle.name_table.proofs.OrderLemmas.{declared_below, found_mutual, mutual_found}
use Rattle.name_table.specs.Orders.{declared_pairs}
use Rattle.name_table.proofs.laws.cycles_lead_both_ways.Goals as goal

pub returns : goal.returns
returns c = λ tree. (
  found_mutual (length tree.elements) (declared_pairs tree) (declared_below tree),
  λ w. mutual_found (length tree.elements) (declared_pairs tree) (declared_below tree) w.0 w.1 w.2 w.3 w.4,
)
