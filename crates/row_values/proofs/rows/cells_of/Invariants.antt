use Rattle.row_values.proofs.RowLemmas.{CellsLeft}
use Rattle.row_values.proofs.rows.cells_of.Given as goal

abbrev pub invariant-loop-at : goal.invariant-loop-at
invariant-loop-at l = CellsLeft l.types l.rounding l.ports l.trees l.at l.values.items
