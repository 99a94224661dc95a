-- A finite order as a table: for each element a word, whose bits are the elements that it is at most.
use Rattle.std.specs.Prelude.{◌<◌, ◌≤◌, ℕ, Bool, IsTrue, nat_lt, nat_eq, List, length, slice_index}
use Rattle.std.specs.Int.{bit_at}
use Rattle.order_core.specs.Order.{IsOrder}

-- The elements are the numbers of the words.
abbrev pub is_element : List ℕ → ℕ → Bool
is_element table a = nat_lt a (length table)

abbrev pub is_below : List ℕ → ℕ → ℕ → Bool
is_below table a b = nat_eq (bit_at (slice_index table a) b) 1

-- The table is that of an order on 1 to 64 elements, which are at most elements alone.
pub record IsTable (table : List ℕ) : Type 0 where
  pub some : 0 < length table
  pub few : length table ≤ 64
  pub order : IsOrder (is_element table) (is_below table)
  pub within : (a b : ℕ) → IsTrue (is_element table a) → IsTrue (is_below table a b) → IsTrue (is_element table b)
