-- A payload, a heavy cheap motor and a light dear one, where the cost alone counts.
use Rattle.std.specs.Prelude.{codes, List, [], ◌∷◌}
use Rattle.design_model.specs.declared.design.CatRow.{CatRow}
use Rattle.design_model.specs.declared.design.Design.TheVariants.{Cat, Net}
use Rattle.design_model.specs.declared.design.Design.{Design}
use Rattle.design_model.specs.declared.design.Part.{Part}
use Rattle.design_model.specs.declared.expr.Constraint.{Constraint}
use Rattle.design_model.specs.declared.expr.Expr.TheVariants as expr
use Rattle.design_model.specs.declared.expr.Expr.{Expr}
use Rattle.design_model.specs.declared.expr.Greater.TheVariants as greater
use Rattle.design_model.specs.declared.witness.PartWitness.{PartWitness}
use Rattle.design_model.specs.declared.witness.Witness.TheVariants as witness
use Rattle.model_examples.specs.Words.{number_port, counts, row, part, constraint}
use Rattle.value_type.specs.declared.port.Port.{Port}

abbrev pub motor_provides : List Port
motor_provides = number_port (codes "lift") ∷ []

abbrev pub motor_requires : List Port
motor_requires = number_port (codes "mass") ∷ number_port (codes "cost") ∷ []

abbrev pub motor_rows : List CatRow
motor_rows = row (codes "heavy") (500 ∷ []) (200 ∷ 100 ∷ []) ∷ row (codes "light") (500 ∷ []) (50 ∷ 900 ∷ []) ∷ []

-- Two motors: how many grams each lifts and weighs, and how many cents it costs.
abbrev pub motors : Design
motors = Cat motor_provides motor_requires motor_rows

abbrev pub provides : List Port
provides = number_port (codes "payload") ∷ []

abbrev pub requires_ : List Port
requires_ = number_port (codes "cost") ∷ []

-- the payload and the motor's mass
abbrev pub load : Expr
load = expr.Sum (expr.Own 0) (expr.Inner 0 0)

abbrev pub constraints : List Constraint
constraints = constraint (greater.Inner 0 0) load ∷ constraint (greater.Own 0) (expr.Inner 0 1) ∷ []

abbrev pub parts : List Part
parts = part (codes "m") motors ∷ []

-- The motor lifts the payload and itself, and the whole costs what it does.
abbrev pub trade : Design
trade = Net provides requires_ parts constraints

-- the heavy motor, carrying itself and 100
abbrev pub heavy : List PartWitness
heavy = record { provided = counts (300 ∷ []); required = counts (200 ∷ 100 ∷ []); inner = witness.Row 0 } ∷ []
