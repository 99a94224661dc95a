use Rattle.std.proofs.Common.{◌≡◌, ◌++◌, map, take}
use Rattle.term_compile.specs.Given.{over_wires_in}
use Rattle.term_compile.proofs.over_wires.push_over_wires.Given as goal

-- The constraints so far are added.
abbrev pub invariant-loop-constraint : goal.invariant-loop-constraint
invariant-loop-constraint l = l.into.items ≡ l.initial.into.items ++ map (over_wires_in l.first l.order l.signals) (take l.constraint-index l.constraints)
