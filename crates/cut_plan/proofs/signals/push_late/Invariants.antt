use Rattle.std.proofs.Common.{◌≡◌, ◌++◌, take, filter}
use Rattle.cut_plan.specs.CutReads.{is_late}
use Rattle.cut_plan.proofs.signals.push_late.Given as goal

-- The cut reads so far are added.
abbrev pub invariant-loop-signal : goal.invariant-loop-signal
invariant-loop-signal l = l.into.items ≡ l.initial.into.items ++ filter (is_late l.places l.at) (take l.signal-index l.signals)
