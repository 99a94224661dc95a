use Rattle.std.proofs.Common.{◌≡◌, take}
use Rattle.std.specs.Prelude.{Some}
use Rattle.row_values.specs.Rows.{cells_meant}
use Rattle.query_read.proofs.row.row_of_trees.Given as goal

-- The values so far are those of the trees so far.
abbrev pub invariant-loop-at : goal.invariant-loop-at
invariant-loop-at l = cells_meant l.types l.rounding (take l.at l.ports) (take l.at l.trees) ≡ Some l.values.items
