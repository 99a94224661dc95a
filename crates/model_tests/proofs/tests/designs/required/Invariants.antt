use Rattle.std.proofs.Common.{◌≡◌, map, take}
use Rattle.design_model.specs.declared.witness.PartWitness.{PartWitness}
use Rattle.model_tests.proofs.tests.designs.required.Given as goal

-- The rows so far are what the parts before require.
abbrev pub invariant-loop-part : goal.invariant-loop-part
invariant-loop-part l = l.rows.items ≡ map (λ (w : PartWitness). w.required) (take l.part-index l.parts)
