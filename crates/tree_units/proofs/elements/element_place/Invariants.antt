use Rattle.std.proofs.Common.{◌≡◌, drop}
use Rattle.std.specs.List.{position_from}
use Rattle.std.specs.Str.{bytes_eq}
use Rattle.tree_units.specs.Elements.{element_place}
use Rattle.tree_units.proofs.elements.element_place.Given as goal

abbrev pub invariant-loop-at : goal.invariant-loop-at
invariant-loop-at l = element_place l.poset l.name ≡ position_from (λ n. bytes_eq l.name n) l.at (drop l.at l.poset.elements)
