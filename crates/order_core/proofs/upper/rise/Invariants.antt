use Rattle.std.proofs.Common.{◌≡◌, drop}
use Rattle.order_core.specs.Upper.{rise_from}
use Rattle.order_core.proofs.upper.rise.Given as goal

-- What is left decides.
abbrev pub invariant-loop-number : goal.invariant-loop-number
invariant-loop-number l = rise_from 0 l.numbers ≡ rise_from l.least (drop l.number-index l.numbers)
