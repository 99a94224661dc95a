use Rattle.std.proofs.Common.{◌≡◌, ◌++◌, map, drop}
use Rattle.std.specs.Prelude.{option_map}
use Rattle.row_values.specs.Values.{each_meant, value_meant}
use Rattle.row_values.proofs.value.+value.Given as goal

-- The values so far, followed by those of the trees left, are all values.
abbrev pub invariant-values_of_trees-loop-at : goal.invariant-values_of_trees-loop-at
invariant-values_of_trees-loop-at l =
    each_meant (map (value_meant l.types l.rounding) l.kinds) l.trees
    ≡ option_map (λ vs. l.values.items ++ vs) (each_meant (map (value_meant l.types l.rounding) (drop l.at l.kinds)) (drop l.at l.trees))
