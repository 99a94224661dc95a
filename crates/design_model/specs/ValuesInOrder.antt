-- Values that are there, of a type, and in order; and rows that are read in order.
use Rattle.std.specs.Prelude.{◌≡◌, ℕ, Bool, IsTrue, Option, Some}
use Rattle.value_type.specs.declared.kind.Kind.{Kind}
use Rattle.value_type.specs.declared.poset.Types.{Types}
use Rattle.value_type.specs.declared.value.Value.{Value}
use Rattle.value_type.specs.Fits.{fits}
use Rattle.value_type.specs.Leq.{leq}
use Rattle.design_model.specs.ExprKinds.{PortTypes}
use Rattle.design_model.specs.ValueOf.{Reads}

-- Both are there and the type has them, and the first is at most the second.
pub record AreInOrder (has : Kind → Value → Bool) (order : Kind → Value → Value → Bool) (k : Kind) (a b : Option Value) : Type 0 where
  pub low : Value
  pub high : Value
  pub low_is : a ≡ Some low
  pub high_is : b ≡ Some high
  pub low_fits : IsTrue (has k low)
  pub high_fits : IsTrue (has k high)
  pub ordered : IsTrue (order k low high)

-- What the ports of known types carry in the first reading is at most what they carry in the second. Of the parts' ports that is said of those that pass the test alone.
pub record ReadsInOrder (has : Kind → Value → Bool) (order : Kind → Value → Value → Bool) (ports : PortTypes) (promised : ℕ → ℕ → Bool) (low high : Reads) : Type 0 where
  pub own : (j : ℕ) (k : Kind) → ports.own j ≡ Some k → AreInOrder has order k (low.own j) (high.own j)
  pub inner : (i j : ℕ) (k : Kind) → IsTrue (promised i j) → ports.inner i j ≡ Some k → AreInOrder has order k (low.inner i j) (high.inner i j)

-- Both are there and values of the type, and the first is at most the second.
abbrev pub ValuesLeq : Types → Kind → Option Value → Option Value → Type 0
ValuesLeq t = AreInOrder (fits t) (leq t)

abbrev pub ReadsLeq : Types → PortTypes → (ℕ → ℕ → Bool) → Reads → Reads → Type 0
ReadsLeq t = ReadsInOrder (fits t) (leq t)

-- It is there, and a value of the type.
pub record FitsAt (t : Types) (k : Kind) (a : Option Value) : Type 0 where
  pub value : Value
  pub is : a ≡ Some value
  pub fits_kind : IsTrue (fits t k value)
