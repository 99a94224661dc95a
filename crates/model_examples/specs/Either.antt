-- A choice between a fixed price and a loop that climbs without end.
use Rattle.std.specs.Prelude.{codes, List, [], ◌∷◌}
use Rattle.value_type.specs.declared.port.Port.{Port}
use Rattle.value_type.specs.declared.value.Value.TheVariants as value
use Rattle.design_model.specs.declared.design.CatRow.{CatRow}
use Rattle.design_model.specs.declared.design.Design.{Design}
use Rattle.design_model.specs.declared.design.Design.TheVariants.{Cat, Choice}
use Rattle.design_model.specs.declared.design.Part.{Part}
use Rattle.design_model.specs.declared.expr.Expr.TheVariants as expr
use Rattle.design_model.specs.declared.expr.Greater.TheVariants as greater
use Rattle.design_model.specs.Steady.{NetOf, design_of}
use Rattle.model_examples.specs.Successor.{successor}
use Rattle.model_examples.specs.Words.{number_port, row, part, constraint}

-- the price, and a fee
abbrev pub requires_ : List Port
requires_ = number_port (codes "out") ∷ number_port (codes "pay") ∷ []

abbrev pub flat_rows : List CatRow
flat_rows = row (codes "a") [] (9 ∷ 0 ∷ []) ∷ []

-- 9, and nothing to pay
abbrev pub flat : Design
flat = Cat [] requires_ flat_rows

-- The successor is asked for what it requires, which is the price; and there is 1 to pay.
abbrev pub paid : NetOf
paid = record {
  provides = [];
  requires_ = requires_;
  parts = part (codes "s") successor ∷ [];
  constraints = constraint (greater.Inner 0 0) (expr.Inner 0 0) ∷ constraint (greater.Own 0) (expr.Inner 0 0) ∷ constraint (greater.Own 1) (expr.Constant (value.Num 1)) ∷ [];
}

abbrev pub branches : List Part
branches = part (codes "one") flat ∷ part (codes "two") (design_of paid) ∷ []

-- Either of the two, at the same ports.
abbrev pub either : Design
either = Choice [] requires_ branches
