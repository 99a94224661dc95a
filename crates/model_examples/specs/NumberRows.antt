-- Rows of numbers.
use Rattle.std.specs.Prelude.{◌≡◌, ℕ, Bool, true, false, nat_le, ◌&&◌, IsTrue, List, [], ◌∷◌, map}
use Rattle.design_model.specs.Rows.{Row}
use Rattle.order_core.specs.Num as numeric
use Rattle.order_core.specs.declared.num.Num.{Num as Number}
use Rattle.value_type.specs.Forms.{number_value}
use Rattle.value_type.specs.declared.value.Value.{Value}

-- the values of some numbers
abbrev pub row_of : List Number → Row
row_of ns = map number_value ns

-- A value that fits is a number.
pub record IsNumber (v : Value) : Type 0 where
  pub number_is : Number
  pub value_is : v ≡ number_value number_is
  pub valid : IsTrue (numeric.is_number number_is)

-- A row that fits one number port has one number.
pub record IsOne (r : Row) : Type 0 where
  pub only : Number
  pub row_is : r ≡ number_value only ∷ []
  pub valid : IsTrue (numeric.is_number only)

-- Each count is at most its partner.
abbrev pub all_leq : List ℕ → List ℕ → Bool
all_leq [] [] = true
all_leq (m ∷ ms) (n ∷ ns) = nat_le m n && all_leq ms ns
all_leq _ _ = false

-- Each count is one that there is.
abbrev pub all_valid : List ℕ → Bool
all_valid [] = true
all_valid (m ∷ ms) = nat_le m 10000000000000000000 && all_valid ms

-- A row that fits two number ports has two numbers.
pub record IsTwo (r : Row) : Type 0 where
  pub left : Number
  pub right : Number
  pub row_is : r ≡ number_value left ∷ number_value right ∷ []
  pub left_valid : IsTrue (numeric.is_number left)
  pub right_valid : IsTrue (numeric.is_number right)
