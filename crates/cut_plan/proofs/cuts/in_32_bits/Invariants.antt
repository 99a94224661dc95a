use Rattle.std.proofs.Common.{◌≡◌, take}
use Rattle.cut_plan.proofs.cuts.in_32_bits.Given as goal

-- The numbers so far are the same.
abbrev pub invariant-loop-number : goal.invariant-loop-number
invariant-loop-number l = l.made.items ≡ take l.number-index l.numbers
