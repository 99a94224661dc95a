use Rattle.std.proofs.Common.{◌≡◌, take}
use Rattle.value_type.proofs.row.Row.copy.Given as goal

-- The values so far are copied.
abbrev pub invariant-loop-value : goal.invariant-loop-value
invariant-loop-value l = l.values.items ≡ take l.value-index l.self
