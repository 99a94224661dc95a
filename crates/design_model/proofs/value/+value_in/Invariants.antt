use Rattle.std.proofs.Common.{◌≡◌, ◌++◌, map, drop}
use Rattle.std.specs.Prelude.{option_map}
use Rattle.design_model.specs.ValueOf.{value_of, together}
use Rattle.design_model.proofs.value.+value_in.Given as goal

-- The values so far, followed by those of the parts left, are all values.
abbrev pub invariant-values_in-loop-part : goal.invariant-values_in-loop-part
invariant-values_in-loop-part g l =
    together (map value_of l.parts) (g.R.Reading.reads l.reading)
    ≡ option_map (λ vs. l.values.items ++ vs) (together (map value_of (drop l.part-index l.parts)) (g.R.Reading.reads l.reading))
