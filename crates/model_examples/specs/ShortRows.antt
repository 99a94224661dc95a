-- Rows of one value and of two, and constraints between values.
use Rattle.std.specs.Prelude.{◌≡◌, IsTrue, [], ◌∷◌}
use Rattle.design_model.specs.Rows.{Row}
use Rattle.value_type.specs.Fits.{fits}
use Rattle.value_type.specs.declared.kind.Kind.{Kind}
use Rattle.value_type.specs.declared.poset.Types.{Types}
use Rattle.value_type.specs.declared.value.Value.{Value}

-- A row that fits one port has one value.
pub record IsOne (t : Types) (k : Kind) (r : Row) : Type 0 where
  pub only : Value
  pub row_is : r ≡ only ∷ []
  pub valid : IsTrue (fits t k only)

-- A row that fits two ports has two values.
pub record IsTwo (t : Types) (k l : Kind) (r : Row) : Type 0 where
  pub left : Value
  pub right : Value
  pub row_is : r ≡ left ∷ right ∷ []
  pub left_valid : IsTrue (fits t k left)
  pub right_valid : IsTrue (fits t l right)
