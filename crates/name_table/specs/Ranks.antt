-- Ranks of files.
use Rattle.std.specs.Prelude.{◌<◌, ◌≤◌, ℕ, List, slice_index}
use Rattle.order_core.specs.Members.{IsMember}

-- The first number of each pair has a higher rank than the second.
abbrev pub RanksFall : List (ℕ × ℕ) → List ℕ → Type 0
RanksFall pairs ranks = (a b : ℕ) → IsMember {A = ℕ × ℕ} (a, b) pairs → slice_index ranks b < slice_index ranks a

-- The ranks fall along the pairs, and none of those of the numbers below n is greater than n.
pub record AreRanks (n : ℕ) (pairs : List (ℕ × ℕ)) (ranks : List ℕ) : Type 0 where
  pub fall : RanksFall pairs ranks
  pub within : (a : ℕ) → a < n → slice_index ranks a ≤ n
