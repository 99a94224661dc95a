use Rattle.std.proofs.Common.{◌≡◌, take}
use Rattle.cut_plan.specs.Different.{counts}
use Rattle.cut_plan.proofs.numbers.counts_of.Given as goal

-- The counts so far are taken.
abbrev pub invariant-loop-value : goal.invariant-loop-value
invariant-loop-value l = l.counts.items ≡ counts (take l.value-index l.values)
