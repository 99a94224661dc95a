-- A part that has to provide what it requires itself. Of three elements a and b are incomparable, and both are at most t. The part provides a for b, b for a, and t for t.
use Rattle.std.proofs.Common.{refl, arith}
use Rattle.std.specs.Prelude.{ℕ, codes, List, [], ◌∷◌}
use Rattle.design_model.specs.declared.design.CatRow.{CatRow}
use Rattle.design_model.specs.declared.design.Design.TheVariants.{Cat, Net}
use Rattle.design_model.specs.declared.design.Design.{Design}
use Rattle.design_model.specs.declared.design.Part.{Part}
use Rattle.design_model.specs.declared.expr.Constraint.{Constraint}
use Rattle.design_model.specs.declared.expr.Expr.TheVariants as expr
use Rattle.design_model.specs.declared.expr.Greater.TheVariants as greater
use Rattle.model_examples.specs.Elements.{types_over, element_port}
use Rattle.model_examples.specs.TableOrderLaws.{table_order, table_within}
use Rattle.model_examples.specs.Words.{part, constraint}
use Rattle.order_core.specs.Finite.{IsTable}
use Rattle.value_type.specs.declared.port.Port.{Port}
use Rattle.value_type.specs.declared.poset.Poset.{Poset}
use Rattle.value_type.specs.declared.poset.Types.{Types}
use Rattle.value_type.specs.declared.value.Value.TheVariants.{El}
use Rattle.value_type.specs.declared.value.Value.{Value}

-- For each element those that it is at most: a is at most a and t, b at most b and t, and t at most t.
abbrev pub table : List ℕ
table = 5 ∷ 6 ∷ 4 ∷ []

pub is_table : IsTable table
is_table = record { some = omega arith; few = omega arith; order = table_order table refl refl refl; within = table_within table refl }

-- a and b, which are both at most t
abbrev pub poset : Poset
poset = record { name = codes "p"; elements = codes "a" ∷ codes "b" ∷ codes "t" ∷ []; order = record { table = table; is_table = is_table } }

abbrev pub types : Types
types = types_over poset

abbrev pub a : Value
a = El 0

abbrev pub b : Value
b = El 1

abbrev pub t : Value
t = El 2

abbrev pub row : List ℕ → Value → Value → CatRow
row name provided required = record { name = name; provided = provided ∷ []; required = required ∷ [] }

abbrev pub maker_provides : List Port
maker_provides = element_port (codes "x") ∷ []

abbrev pub maker_requires : List Port
maker_requires = element_port (codes "y") ∷ []

abbrev pub maker_rows : List CatRow
maker_rows = row (codes "one") a b ∷ row (codes "two") b a ∷ row (codes "three") t t ∷ []

-- It provides a for b, b for a, and t for t.
abbrev pub maker : Design
maker = Cat maker_provides maker_requires maker_rows

abbrev pub requires_ : List Port
requires_ = element_port (codes "out") ∷ []

abbrev pub parts : List Part
parts = part (codes "c") maker ∷ []

abbrev pub constraints : List Constraint
constraints = constraint (greater.Inner 0 0) (expr.Inner 0 0) ∷ constraint (greater.Own 0) (expr.Inner 0 0) ∷ []

-- What the part provides is at least what it requires, and so is what the whole requires.
abbrev pub back : Design
back = Net [] requires_ parts constraints
