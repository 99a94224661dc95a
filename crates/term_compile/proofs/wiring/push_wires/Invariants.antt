use Rattle.std.proofs.Common.{◌≡◌, ◌++◌, ◌+◌, length}
use Rattle.compiled_term.specs.Wires.{wires_from}
use Rattle.term_compile.proofs.wiring.push_wires.Given as goal

-- The wires so far, followed by those left, are all of them.
abbrev pub invariant-loop-kind : goal.invariant-loop-kind
invariant-loop-kind l = record {
  wires : l.initial.into.items ++ wires_from l.first l.fn.kinds.items ≡ l.into.items ++ wires_from l.number l.kind-iterator.rest.items;
  next : l.first + length l.fn.kinds.items ≡ l.number + length l.kind-iterator.rest.items;
}
