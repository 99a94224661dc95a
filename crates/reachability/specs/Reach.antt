-- What a table of rows tells of chains.
use Rattle.std.specs.Prelude.{◌≡◌, ◌<◌, ◌↔◌, ℕ, Bool, IsTrue, List, length}
use Rattle.order_core.specs.NumbersBelow.{numbers_below}
use Rattle.reachability.specs.declared.reach.Reachability.{Reachability}
use Rattle.reachability.specs.Reaches.{Reaches}
use Rattle.reachability.specs.BitSets.{has_at}

-- whether the table leads from a to b
abbrev pub reach : Reachability → ℕ → ℕ → Bool
reach made a b = has_at made.rows a b

-- how many numbers the table leads to from a
abbrev pub rank : Reachability → ℕ → ℕ
rank made a = length (numbers_below made.size (reach made a))

-- The table is of n numbers, and leads exactly where chains of pairs do.
pub record IsReach (n : ℕ) (pairs : List (ℕ × ℕ)) (made : Reachability) : Type 0 where
  pub size : made.size ≡ n
  pub reaches : (a b : ℕ) → IsTrue (reach made a b) ↔ Reaches pairs a b

-- i is the least number that the table leads back to itself from.
pub record IsFirstItself (made : Reachability) (i : ℕ) : Type 0 where
  pub within : i < made.size
  pub itself : IsTrue (reach made i i)
  pub first : (j : ℕ) → j < i → IsTrue (reach made j j) → ⊥

-- The table leads back to itself from no number.
abbrev pub NoneItself : Reachability → Type 0
NoneItself made = (i : ℕ) → i < made.size → IsTrue (reach made i i) → ⊥
