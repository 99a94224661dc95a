use Rattle.std.proofs.Common.{◌≡◌, ◌++◌, drop}
use Rattle.std.specs.Prelude.{option_map}
use Rattle.tree_units.specs.Elements.{elements_named, unknown_elements}
use Rattle.tree_units.proofs.elements.elements_named.Given as goal

-- What is left decides.
abbrev pub invariant-loop-name : goal.invariant-loop-name
invariant-loop-name l =
    (unknown_elements l.poset l.names ≡ unknown_elements l.poset (drop l.name-index l.names))
    × (elements_named l.poset l.names ≡ option_map (λ rest. l.numbers.items ++ rest) (elements_named l.poset (drop l.name-index l.names)))
