use Rattle.std.proofs.Common.{◌≡◌, ◌+◌, drop}
use Rattle.compiled_term.specs.Wires.{place_of}
use Rattle.term_compile.proofs.placing.place_of.Given as goal

-- None of the wires so far has the number.
abbrev pub invariant-loop-at : goal.invariant-loop-at
invariant-loop-at l = place_of l.wires l.number ≡ place_of (drop l.at l.wires) l.number + l.at
