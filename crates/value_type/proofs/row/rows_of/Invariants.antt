use Rattle.std.proofs.Common.{◌≡◌}
use Rattle.value_type.proofs.row.rows_of.Given as goal

-- The tuples so far are rows.
abbrev pub invariant-loop-tuple : goal.invariant-loop-tuple
invariant-loop-tuple l = l.rows.items ≡ l.yielded
