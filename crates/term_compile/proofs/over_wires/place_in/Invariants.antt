use Rattle.std.proofs.Common.{◌≡◌, ◌+◌, drop}
use Rattle.design_model.specs.Evaluation.{place}
use Rattle.term_compile.proofs.over_wires.place_in.Given as goal

-- None of the parts so far is this one.
abbrev pub invariant-loop-at : goal.invariant-loop-at
invariant-loop-at l = place l.order l.part ≡ place (drop l.at l.order) l.part + l.at
