use Rattle.std.proofs.Common.{take}
use Rattle.library_load.specs.Accepted.{IsInLimits}
use Rattle.order_core.specs.Pointwise.{Each}
use Rattle.library_load.proofs.limits.check_limits.Given as goal

-- The designs so far are within the limits.
abbrev pub invariant-loop-number : goal.invariant-loop-number
invariant-loop-number l = Each (IsInLimits l.names.files l.names.tables l.names.types) (take l.number l.names.files)
