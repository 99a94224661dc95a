-- A load on a body that carries its own motor, where the load grows by a hundredth of the body's mass.
use Rattle.std.specs.Prelude.{codes, List, [], ◌∷◌}
use Rattle.std.proofs.Common.{refl}
use Rattle.unit_core.specs.declared.fraction.Fraction.{Fraction}
use Rattle.value_type.specs.declared.port.Port.{Port}
use Rattle.design_model.specs.declared.design.CatRow.{CatRow}
use Rattle.design_model.specs.declared.design.Design.{Design}
use Rattle.design_model.specs.declared.design.Design.TheVariants.{Cat}
use Rattle.design_model.specs.declared.expr.Expr.TheVariants as expr
use Rattle.design_model.specs.declared.expr.Greater.TheVariants as greater
use Rattle.design_model.specs.Steady.{NetOf, design_of}
use Rattle.model_examples.specs.Fractions.{one_over}
use Rattle.model_examples.specs.Words.{number_port, row, part, constraint}

abbrev pub motor_provides : List Port
motor_provides = number_port (codes "lift") ∷ []

abbrev pub motor_requires : List Port
motor_requires = number_port (codes "mass") ∷ []

abbrev pub motor_rows : List CatRow
motor_rows = row (codes "a") (100 ∷ []) (10 ∷ []) ∷ row (codes "b") (120 ∷ []) (50 ∷ []) ∷ row (codes "c") (1000 ∷ []) (400 ∷ []) ∷ []

-- Three motors: how many grams each lifts and weighs.
abbrev pub motors : Design
motors = Cat motor_provides motor_requires motor_rows

-- The motor lifts the payload and itself, and the body weighs what it does.
abbrev pub body : NetOf
body = record {
  provides = number_port (codes "payload") ∷ [];
  requires_ = number_port (codes "mass") ∷ [];
  parts = part (codes "motor") motors ∷ [];
  constraints = constraint (greater.Inner 0 0) (expr.Sum (expr.Own 0) (expr.Inner 0 0)) ∷ constraint (greater.Own 0) (expr.Inner 0 0) ∷ [];
}

-- one of a hundred equal parts
abbrev pub hundredth : Fraction
hundredth = one_over 100 refl refl

-- The body's payload is the load and a hundredth of the body's mass, and the whole weighs what the body does.
abbrev pub outer : NetOf
outer = record {
  provides = number_port (codes "load") ∷ [];
  requires_ = number_port (codes "total") ∷ [];
  parts = part (codes "b") (design_of body) ∷ [];
  constraints = constraint (greater.Inner 0 0) (expr.Sum (expr.Own 0) (expr.Scale hundredth (expr.Inner 0 0))) ∷ constraint (greater.Own 0) (expr.Inner 0 0) ∷ [];
}
