use Rattle.std.proofs.Common.{◌≡◌, take}
use Rattle.term_compile.proofs.rows.copy_rows.Given as goal

-- The rows so far are copied.
abbrev pub invariant-loop-row : goal.invariant-loop-row
invariant-loop-row l = l.made.items ≡ take l.row-index l.rows
