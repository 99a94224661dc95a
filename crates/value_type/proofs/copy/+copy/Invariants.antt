use Rattle.std.proofs.Common.{◌≡◌, take}
use Rattle.value_type.proofs.copy.+copy.Given as goal

-- The values so far are copied.
abbrev pub invariant-copy_values-loop-value : goal.invariant-copy_values-loop-value
invariant-copy_values-loop-value l = l.made.items ≡ take l.value-index l.values
