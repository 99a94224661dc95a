use Rattle.std.proofs.Common.{drop}
use Rattle.order_core.specs.Pointwise.{Each}
use Rattle.cut_plan.specs.Nets.{HasFewPorts}
use Rattle.model_tests.proofs.tests.cuts.have_few_ports.Given as goal

-- What is left decides.
abbrev pub invariant-loop-part : goal.invariant-loop-part
invariant-loop-part l = Each HasFewPorts (drop l.part-index l.parts) → Each HasFewPorts l.parts
