use Rattle.std.proofs.Common.{◌≡◌, ◌≤◌, drop, length}
use Rattle.value_type.specs.PrintOrder.{row_cmp}
use Rattle.value_type.proofs.print.+print.Given as goal

-- What is left decides.
abbrev pub invariant-compare_values-loop-at : goal.invariant-compare_values-loop-at
invariant-compare_values-loop-at l = (row_cmp l.xs l.ys ≡ row_cmp (drop l.at l.xs) (drop l.at l.ys)) × (l.at ≤ length l.ys)
