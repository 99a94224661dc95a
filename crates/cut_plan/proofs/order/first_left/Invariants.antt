use Rattle.std.proofs.Common.{◌≡◌, drop}
use Rattle.cut_plan.specs.Turns.{left_from}
use Rattle.cut_plan.proofs.order.first_left.Given as goal

-- No part so far is left.
abbrev pub invariant-loop-part : goal.invariant-loop-part
invariant-loop-part l = left_from 0 l.taken ≡ left_from l.part (drop l.part l.taken)
