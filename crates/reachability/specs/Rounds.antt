-- Rows of sets: those of pairs, what a round makes of one, and those of chains.
use Rattle.std.specs.Prelude.{◌≡◌, ◌<◌, ◌↔◌, ◌+◌, ◌/◌, ℕ, IsTrue, List, [], cond, length, slice_index_or}
use Rattle.order_core.specs.Members.{IsMember}
use Rattle.reachability.specs.BitSets.{has_in, has_at, united}
use Rattle.reachability.specs.Reaches.{Reaches}

-- a row that has k, united with the row of k, which is beyond it, and any other row as it is
abbrev pub passed : ℕ → List ℕ → List ℕ → List ℕ
passed k beyond row = cond (has_in row k) (united row beyond) row

-- n rows with room for the numbers below n
pub record AreRows (n : ℕ) (rows : List (List ℕ)) : Type 0 where
  pub size : length rows ≡ n
  pub widths : (k : ℕ) → k < n → length (slice_index_or rows k []) ≡ n / 64 + 1

-- The rows have what one pair leads to.
pub record AreDirect (n : ℕ) (pairs : List (ℕ × ℕ)) (rows : List (List ℕ)) : Type 0 where
  pub shape : AreRows n rows
  pub direct : (a b : ℕ) → IsTrue (has_at rows a b) ↔ IsMember {A = ℕ × ℕ} (a, b) pairs

-- The rows have what chains lead to.
abbrev pub AreClosed : List (ℕ × ℕ) → List (List ℕ) → Type 0
AreClosed pairs rows = (a b : ℕ) → IsTrue (has_at rows a b) ↔ Reaches pairs a b
