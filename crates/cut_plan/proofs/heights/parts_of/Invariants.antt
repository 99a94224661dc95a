use Rattle.std.proofs.Common.{◌≡◌, take}
use Rattle.design_model.specs.Heights as spec
use Rattle.cut_plan.proofs.heights.parts_of.Given as goal

-- The parts of the tuples so far are taken.
abbrev pub invariant-loop-tuple : goal.invariant-loop-tuple
invariant-loop-tuple l = l.parts.items ≡ spec.parts_at l.at (take l.tuple-index l.tuples)
