use Rattle.std.proofs.Common.{◌≡◌, ◌+◌, ◌*◌, List, map, take}
use Rattle.design_model.specs.declared.design.Part.{Part}
use Rattle.template_expand.specs.Trails.{PartsBeneath}
use Rattle.template_expand.proofs.expanding.+reference_made.Given as goal

abbrev pub decreases-body_made : goal.decreases-body_made
decreases-body_made l = 3 * l.depth + 1

abbrev pub decreases-reference_made : goal.decreases-reference_made
decreases-reference_made l = 3 * l.depth + 2

abbrev pub decreases-parts_made : goal.decreases-parts_made
decreases-parts_made l = 3 * l.depth + 3

-- The parts so far are those of the links so far.
abbrev pub invariant-parts_made-loop-link : goal.invariant-parts_made-loop-link
invariant-parts_made-loop-link l =
    (ps : List Part) → PartsBeneath l.modules (map (λ xs. xs.now) l.trail) l.links ps → l.made.items ≡ take l.link-index ps
