use Rattle.std.proofs.Common.{◌≡◌, take}
use Rattle.template_expand.proofs.copy.copy_constraints.Given as goal

-- The constraints so far are copied.
abbrev pub invariant-loop-constraint : goal.invariant-loop-constraint
invariant-loop-constraint l = l.made.items ≡ take l.constraint-index l.constraints
