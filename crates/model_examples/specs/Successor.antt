-- What requires one more than it provides.
use Rattle.std.specs.Prelude.{codes, List, [], ◌∷◌}
use Rattle.value_type.specs.declared.port.Port.{Port}
use Rattle.value_type.specs.declared.value.Value.TheVariants as value
use Rattle.design_model.specs.declared.design.Design.{Design}
use Rattle.design_model.specs.declared.design.Design.TheVariants.{Net}
use Rattle.design_model.specs.declared.expr.Constraint.{Constraint}
use Rattle.design_model.specs.declared.expr.Expr.{Expr}
use Rattle.design_model.specs.declared.expr.Expr.TheVariants as expr
use Rattle.design_model.specs.declared.expr.Greater.TheVariants as greater
use Rattle.model_examples.specs.Words.{number_port, constraint}

abbrev pub provides : List Port
provides = number_port (codes "a") ∷ []

abbrev pub requires_ : List Port
requires_ = number_port (codes "b") ∷ []

abbrev pub one_more : Expr
one_more = expr.Sum (expr.Own 0) (expr.Constant (value.Num 1))

abbrev pub constraints : List Constraint
constraints = constraint (greater.Own 0) one_more ∷ []

-- Of the number that it provides, the successor is what it requires.
abbrev pub successor : Design
successor = Net provides requires_ [] constraints
