use Rattle.std.proofs.Common.{◌≡◌, take}
use Rattle.std.specs.List.{flat_map}
use Rattle.compiled_term.specs.Stages.{asked_of_state}
use Rattle.term_compile.proofs.targets.targets_of_state.Given as goal

-- What the constraints so far ask is there.
abbrev pub invariant-loop-constraint : goal.invariant-loop-constraint
invariant-loop-constraint l = l.targets.items ≡ flat_map (λ c. asked_of_state l.wires c.greater c.lower) (take l.constraint-index l.constraints)
