-- Walks through declared pairs, and the order that they make.
use Rattle.std.specs.Prelude.{◌≡◌, ◌<◌, ◌≤◌, ◌↔◌, ◌⊎◌, ℕ, Bool, nat_lt, ◌&&◌, IsTrue, List, [], ◌∷◌, length}
use Rattle.order_core.specs.Members.{IsMember}
use Rattle.order_core.specs.Finite.{is_below}

-- From a, through the steps in turn, to b, where each step and the one before it are a declared pair.
abbrev pub WalksAlong : List (ℕ × ℕ) → ℕ → List ℕ → ℕ → Type 0
WalksAlong pairs a [] b = a ≡ b
WalksAlong pairs a (next ∷ steps) b = IsMember (a, next) pairs × WalksAlong pairs next steps b

-- Some walk leads from a to b. From each element to itself the walk without steps does.
abbrev pub Walk : List (ℕ × ℕ) → ℕ → ℕ → Type 0
Walk pairs a b = (steps : List ℕ) × WalksAlong pairs a steps b

-- Both numbers of the pair are below n.
abbrev pub is_pair_below : ℕ → ℕ × ℕ → Bool
is_pair_below n pair = nat_lt pair.0 n && nat_lt pair.1 n

-- The table has n elements, and relates each of them to the numbers that a walk leads to, and to no other number.
pub record IsClosure (n : ℕ) (pairs : List (ℕ × ℕ)) (table : List ℕ) : Type 0 where
  pub size : length table ≡ n
  pub walks : (a b : ℕ) → a < n → IsTrue (is_below table a b) ↔ Walk pairs a b

-- Walks lead from each to the other.
abbrev pub BothWays : List (ℕ × ℕ) → ℕ → ℕ → Type 0
BothWays pairs a b = Walk pairs a b × Walk pairs b a

-- Of the different elements below n that walks relate both ways, the first two, by a and then by b.
pub record IsFirstCycle (n : ℕ) (pairs : List (ℕ × ℕ)) (a b : ℕ) : Type 0 where
  pub different : a < b
  pub within : b < n
  pub both_ways : BothWays pairs a b
  pub first : (x y : ℕ) → x < y → y < n → BothWays pairs x y → (a < x) ⊎ (a ≡ x) × (b ≤ y)
