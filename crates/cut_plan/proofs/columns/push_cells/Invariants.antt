use Rattle.std.proofs.Common.{◌≡◌, ◌++◌, take}
use Rattle.std.specs.Prelude.{slice_get}
use Rattle.std.specs.List.{filter_map}
use Rattle.cut_plan.proofs.columns.push_cells.Given as goal

-- The values in the rows so far are added.
abbrev pub invariant-loop-row : goal.invariant-loop-row
invariant-loop-row l = l.into.items ≡ l.initial.into.items ++ filter_map (λ row. slice_get row.required l.port) (take l.row-index l.rows)
