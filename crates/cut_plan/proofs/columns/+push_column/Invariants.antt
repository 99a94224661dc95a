use Rattle.std.proofs.Common.{◌≡◌, drop}
use Rattle.value_type.specs.declared.poset.Types.{Types}
use Rattle.cut_plan.specs.Totals.{column, with_column, rows_joined}
use Rattle.cut_plan.proofs.columns.+push_column.Given as goal

-- What is left decides.
abbrev pub invariant-push_columns-loop-branch : goal.invariant-push_columns-loop-branch
invariant-push_columns-loop-branch l =
    (t : Types) → with_column l.initial.into.items (column (rows_joined t l.branches) l.port)
    ≡ with_column l.into.items (column (rows_joined t (drop l.branch-index l.branches)) l.port)
