-- A payload, and the motor that lifts it and itself.
use Rattle.std.specs.Prelude.{codes, List, [], ◌∷◌}
use Rattle.design_model.specs.declared.design.CatRow.{CatRow}
use Rattle.design_model.specs.declared.design.Design.TheVariants.{Cat, Net}
use Rattle.design_model.specs.declared.design.Design.{Design}
use Rattle.design_model.specs.declared.design.Part.{Part}
use Rattle.design_model.specs.declared.expr.Constraint.{Constraint}
use Rattle.design_model.specs.declared.expr.Expr.TheVariants as expr
use Rattle.design_model.specs.declared.expr.Expr.{Expr}
use Rattle.design_model.specs.declared.expr.Greater.TheVariants as greater
use Rattle.model_examples.specs.Words.{number_port, row, part, constraint}
use Rattle.value_type.specs.declared.port.Port.{Port}

abbrev pub motor_provides : List Port
motor_provides = number_port (codes "lift") ∷ []

abbrev pub motor_requires : List Port
motor_requires = number_port (codes "mass") ∷ []

abbrev pub motor_rows : List CatRow
motor_rows = row (codes "a") (100 ∷ []) (10 ∷ []) ∷ row (codes "b") (300 ∷ []) (50 ∷ []) ∷ row (codes "c") (1000 ∷ []) (400 ∷ []) ∷ []

-- Three motors: how many grams each lifts and weighs.
abbrev pub motors : Design
motors = Cat motor_provides motor_requires motor_rows

abbrev pub provides : List Port
provides = number_port (codes "payload") ∷ []

abbrev pub requires_ : List Port
requires_ = number_port (codes "mass") ∷ []

-- the payload and the motor's mass
abbrev pub load : Expr
load = expr.Sum (expr.Own 0) (expr.Inner 0 0)

abbrev pub constraints : List Constraint
constraints = constraint (greater.Inner 0 0) load ∷ constraint (greater.Own 0) (expr.Inner 0 0) ∷ []

abbrev pub parts : List Part
parts = part (codes "motor") motors ∷ []

-- The motor lifts the payload and itself, and the whole weighs what it does.
abbrev pub lifter : Design
lifter = Net provides requires_ parts constraints
