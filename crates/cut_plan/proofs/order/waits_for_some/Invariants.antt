use Rattle.std.proofs.Common.{◌≡◌, drop}
use Rattle.std.specs.List.{list_any}
use Rattle.cut_plan.specs.Turns.{waits}
use Rattle.cut_plan.proofs.order.waits_for_some.Given as goal

-- What is left decides.
abbrev pub invariant-loop-signal : goal.invariant-loop-signal
invariant-loop-signal l = list_any (waits l.taken l.part) (drop l.signal-index l.signals) ≡ list_any (waits l.taken l.part) l.signals
