use Rattle.std.proofs.Common.{◌≡◌, take}
use Rattle.compiled_term.specs.Wires.{wire_kinds}
use Rattle.term_compile.proofs.wiring.wire_kinds.Given as goal

-- The types of the wires so far are there.
abbrev pub invariant-loop-wire : goal.invariant-loop-wire
invariant-loop-wire l = l.kinds.items ≡ wire_kinds (take l.wire-index l.wires)
