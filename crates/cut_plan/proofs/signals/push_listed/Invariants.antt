use Rattle.std.proofs.Common.{◌≡◌, ◌++◌, ◌-◌}
use Rattle.cut_plan.specs.CutReads.{listed_ports}
use Rattle.cut_plan.proofs.signals.push_listed.Given as goal

-- The ports so far, followed by those left, are all of them.
abbrev pub invariant-loop-port : goal.invariant-loop-port
invariant-loop-port l = l.initial.into.items ++ listed_ports l.listed l.part 0 l.count ≡ l.into.items ++ listed_ports l.listed l.part l.port (l.count - l.port)
