-- Two elements without a least upper bound. Of four elements a and b are each at most c and d, and no others are in order. What is at least a and b is at least c or at least d.
use Rattle.std.proofs.Common.{refl, arith}
use Rattle.std.specs.Prelude.{ℕ, codes, List, [], ◌∷◌}
use Rattle.design_model.specs.Rows.{Row}
use Rattle.design_model.specs.declared.design.Design.TheVariants.{Net}
use Rattle.design_model.specs.declared.design.Design.{Design}
use Rattle.design_model.specs.declared.expr.Constraint.{Constraint}
use Rattle.design_model.specs.declared.expr.Expr.TheVariants as expr
use Rattle.design_model.specs.declared.expr.Greater.TheVariants as greater
use Rattle.model_examples.specs.Elements.{types_over, element_port}
use Rattle.model_examples.specs.TableOrderLaws.{table_order, table_within}
use Rattle.model_examples.specs.Words.{constraint}
use Rattle.order_core.specs.Finite.{IsTable}
use Rattle.value_type.specs.declared.port.Port.{Port}
use Rattle.value_type.specs.declared.poset.Poset.{Poset}
use Rattle.value_type.specs.declared.poset.Types.{Types}
use Rattle.value_type.specs.declared.value.Value.TheVariants.{El}
use Rattle.value_type.specs.declared.value.Value.{Value}

-- For each element those that it is at most: a and b are each at most c and d.
abbrev pub table : List ℕ
table = 13 ∷ 14 ∷ 4 ∷ 8 ∷ []

pub is_table : IsTable table
is_table = record { some = omega arith; few = omega arith; order = table_order table refl refl refl; within = table_within table refl }

abbrev pub poset : Poset
poset = record { name = codes "p"; elements = codes "a" ∷ codes "b" ∷ codes "c" ∷ codes "d" ∷ []; order = record { table = table; is_table = is_table } }

abbrev pub types : Types
types = types_over poset

abbrev pub a : Value
a = El 0

abbrev pub b : Value
b = El 1

abbrev pub c : Value
c = El 2

abbrev pub d : Value
d = El 3

abbrev pub provides : List Port
provides = element_port (codes "x") ∷ element_port (codes "y") ∷ []

abbrev pub requires_ : List Port
requires_ = element_port (codes "r") ∷ []

abbrev pub constraints : List Constraint
constraints = constraint (greater.Own 0) (expr.Own 0) ∷ constraint (greater.Own 0) (expr.Own 1) ∷ []

-- What it requires is at least each of the two that it provides.
abbrev pub two : Design
two = Net provides requires_ [] constraints

abbrev pub least : List Row
least = (c ∷ []) ∷ (d ∷ []) ∷ []
