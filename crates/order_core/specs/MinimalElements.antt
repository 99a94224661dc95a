-- The minimal elements of a set of a finite order's elements.
use Rattle.std.specs.Prelude.{◌≢◌, ◌<◌, ◌↔◌, ℕ, Bool, ◌&&◌, ◌||◌, not, nat_eq, IsTrue, List, length}
use Rattle.std.specs.List.{list_all, list_any}
use Rattle.order_core.specs.Finite.{is_element, is_below}
use Rattle.order_core.specs.Members.{IsMember}
use Rattle.order_core.specs.Minimal.{IsMinimal}
use Rattle.order_core.specs.NumbersBelow.{numbers_below}
use Rattle.order_core.specs.Upper.{rise_from}
use Rattle.order_core.specs.Word.{is_in_word}

-- The element is in the set that the word holds.
abbrev pub IsHeld : List ℕ → ℕ → ℕ → Type 0
IsHeld table word x = IsTrue (is_element table x) × IsTrue (is_in_word word x)

-- Another number of the set, one below k, is at most x.
abbrev pub IsCovered : ℕ → List ℕ → ℕ → ℕ → Type 0
IsCovered k table word x = (y : ℕ) × (y < k) × IsTrue (is_in_word word y) × (y ≢ x) × IsTrue (is_below table y x)

-- The rising list of the minimal elements of the set.
pub record AreMinimal (table : List ℕ) (word : ℕ) (xs : List ℕ) : Type 0 where
  pub rising : IsTrue (rise_from 0 xs)
  pub members : (x : ℕ) → IsMember x xs ↔ IsMinimal (is_below table) (IsHeld table word) x

-- The number is listed, and no other listed one is at most it.
abbrev pub is_minimal_in : List ℕ → List ℕ → ℕ → Bool
is_minimal_in table numbers x = list_any (nat_eq x) numbers && list_all (λ y. nat_eq y x || not (is_below table y x)) numbers

-- the minimal ones of the listed elements, each once, in rising order
abbrev pub minimal_of : List ℕ → List ℕ → List ℕ
minimal_of table elements = numbers_below (length table) (is_minimal_in table elements)
