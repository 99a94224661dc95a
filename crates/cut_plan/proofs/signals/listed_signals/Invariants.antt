use Rattle.std.proofs.Common.{◌≡◌, ◌++◌, drop}
use Rattle.cut_plan.specs.CutReads as spec
use Rattle.cut_plan.proofs.signals.listed_signals.Given as goal

-- The signals so far, followed by those of the parts left, are all of them.
abbrev pub invariant-loop-number : goal.invariant-loop-number
invariant-loop-number l = spec.listed_signals l.listed 0 l.parts ≡ l.signals.items ++ spec.listed_signals l.listed l.number (drop l.number l.parts)
