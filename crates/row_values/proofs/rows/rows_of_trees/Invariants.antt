use Rattle.row_values.proofs.RowLemmas.{RowsLeft}
use Rattle.row_values.proofs.rows.rows_of_trees.Given as goal

abbrev pub invariant-loop-row : goal.invariant-loop-row
invariant-loop-row l = RowsLeft l.types l.provides l.requires_ l.rows l.row-index l.made.items
