-- Lists of the numbers below a bound.
use Rattle.std.specs.Prelude.{◌≡◌, ◌≢◌, ◌<◌, ℕ, List, length}
use Rattle.std.proofs.Common.{get_or}
use Rattle.order_core.specs.Members.{IsMember}

-- The list has n items, each number below n and no other, and none of them twice.
pub record IsOrderOf (n : ℕ) (order : List ℕ) : Type 0 where
  pub size : length order ≡ n
  pub below : (p : ℕ) → IsMember p order → p < n
  pub all : (p : ℕ) → p < n → IsMember p order
  pub once : (i j : ℕ) → i < j → j < length order → get_or order i 0 ≢ get_or order j 0
