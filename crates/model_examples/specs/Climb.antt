-- A loop that asks for one more than it gives, and so climbs without end.
use Rattle.std.specs.Prelude.{codes, List, [], ◌∷◌}
use Rattle.design_model.specs.declared.design.Part.{Part}
use Rattle.design_model.specs.declared.expr.Constraint.{Constraint}
use Rattle.design_model.specs.declared.expr.Expr.TheVariants as expr
use Rattle.design_model.specs.declared.expr.Greater.TheVariants as greater
use Rattle.design_model.specs.Cuts.{Signal}
use Rattle.design_model.specs.Steady.{NetOf}
use Rattle.model_examples.specs.Successor.{successor}
use Rattle.model_examples.specs.Words.{numbers, number_port, part, constraint}

-- The part is asked for what it requires, and so is the whole.
abbrev pub constraints : List Constraint
constraints = constraint (greater.Inner 0 0) (expr.Inner 0 0) ∷ constraint (greater.Own 0) (expr.Inner 0 0) ∷ []

abbrev pub parts : List Part
parts = part (codes "s") successor ∷ []

abbrev pub climb : NetOf
climb = record { provides = []; requires_ = number_port (codes "out") ∷ []; parts = parts; constraints = constraints }

-- what the part requires
abbrev pub the_signal : Signal
the_signal = record { part = 0; port = 0; kind = numbers }
