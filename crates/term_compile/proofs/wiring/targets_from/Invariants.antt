use Rattle.std.proofs.Common.{◌≡◌, ◌++◌, length, map}
use Rattle.compiled_term.specs.Stages.{targets_from}
use Rattle.term_compile.proofs.wiring.targets_from.Given as goal

-- The targets and wires so far, followed by those left, are all of them.
abbrev pub invariant-loop-value : goal.invariant-loop-value
invariant-loop-value l = record {
  targets : targets_from 0 l.fn.carried.items ≡ l.targets.items ++ targets_from (length l.targets.items) l.value-iterator.rest.items;
  wires : l.initial.wires.items ++ map (λ c. c.wire) l.fn.carried.items ≡ l.wires.items ++ map (λ c. c.wire) l.value-iterator.rest.items;
}
