use Rattle.std.proofs.Common.{take}
use Rattle.cut_plan.specs.Nets.{HasFewPorts}
use Rattle.order_core.specs.Pointwise.{Each}
use Rattle.term_compile.proofs.plan.are_few.Given as goal

-- The parts so far have few ports.
abbrev pub invariant-loop-part : goal.invariant-loop-part
invariant-loop-part l = Each HasFewPorts (take l.part-index l.parts)
