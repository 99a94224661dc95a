use Rattle.std.proofs.Common.{◌≡◌, drop}
use Rattle.cut_plan.specs.CutReads as spec
use Rattle.cut_plan.proofs.signals.is_listed.Given as goal

-- What is left decides.
abbrev pub invariant-loop-signal : goal.invariant-loop-signal
invariant-loop-signal l = spec.is_listed (drop l.signal-index l.listed) l.part l.port ≡ spec.is_listed l.listed l.part l.port
