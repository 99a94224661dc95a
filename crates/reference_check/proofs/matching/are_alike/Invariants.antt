use Rattle.std.proofs.Common.{◌≡◌, drop}
use Rattle.reference_rules.specs.Outlines.{outlines, same_list}
use Rattle.reference_check.proofs.matching.are_alike.Given as goal

-- What is left decides.
abbrev pub invariant-loop-at : goal.invariant-loop-at
invariant-loop-at l = same_list (outlines l.xs) (outlines l.ys) ≡ same_list (outlines (drop l.at l.xs)) (outlines (drop l.at l.ys))
