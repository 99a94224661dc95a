use Rattle.std.proofs.Common.{drop, map}
use Rattle.std.specs.Prelude.{◌↔◌}
use Rattle.order_core.specs.Pointwise.{Each}
use Rattle.design_model.specs.Holds.{carried_by, AllSatisfied}
use Rattle.design_model.specs.ValueOf.{reads_of}
use Rattle.design_model.specs.Wiring.{wiring_of, Satisfied, required_rows}
use Rattle.design_model.proofs.constraint.all_satisfied.Given as goal

-- What is left decides.
abbrev pub invariant-loop-constraint : goal.invariant-loop-constraint
invariant-loop-constraint l =
    Each (Satisfied l.types (wiring_of (λ p. p) l.at.provides.now l.at.requires_.now l.at.parts.now l.at.constraints.now) l.at.r.now (map carried_by l.at.witnesses.now)
    (reads_of l.at.f.now (required_rows (map carried_by l.at.witnesses.now)))) (drop l.constraint-index l.at.constraints.now)
    ↔ AllSatisfied l.types (wiring_of (λ p. p) l.at.provides.now l.at.requires_.now l.at.parts.now l.at.constraints.now) l.at.f.now l.at.r.now (map carried_by l.at.witnesses.now)
