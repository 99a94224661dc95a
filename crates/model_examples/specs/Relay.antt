-- Three parts in a row, declared against the flow.
use Rattle.std.specs.Prelude.{codes, List, [], ◌∷◌}
use Rattle.design_model.specs.Steady.{NetOf}
use Rattle.design_model.specs.declared.design.Part.{Part}
use Rattle.design_model.specs.declared.expr.Constraint.{Constraint}
use Rattle.design_model.specs.declared.expr.Expr.TheVariants as expr
use Rattle.design_model.specs.declared.expr.Greater.TheVariants as greater
use Rattle.model_examples.specs.Successor.{successor}
use Rattle.model_examples.specs.Words.{number_port, part, constraint}

-- Part 2 gets x, part 1 what part 2 requires, part 0 what part 1 requires, and y is what part 0 requires.
abbrev pub constraints : List Constraint
constraints = constraint (greater.Inner 2 0) (expr.Own 0) ∷ constraint (greater.Inner 1 0) (expr.Inner 2 0) ∷ constraint (greater.Inner 0 0) (expr.Inner 1 0)
    ∷ constraint (greater.Own 0) (expr.Inner 0 0) ∷ []

abbrev pub parts : List Part
parts = part (codes "c") successor ∷ part (codes "b") successor ∷ part (codes "a") successor ∷ []

abbrev pub relay : NetOf
relay = record { provides = number_port (codes "x") ∷ []; requires_ = number_port (codes "y") ∷ []; parts = parts; constraints = constraints }
