-- Chains of pairs, and the numbers that they lead back to themselves from.
use Rattle.std.specs.Prelude.{◌<◌, ℕ, List}
use Rattle.order_core.specs.Members.{IsMember}
use Rattle.order_core.specs.Walk.{Walk}

-- A chain of pairs, of one at least, leads from a to b.
abbrev pub Reaches : List (ℕ × ℕ) → ℕ → ℕ → Type 0
Reaches pairs a b = (next : ℕ) × IsMember {A = ℕ × ℕ} (a, next) pairs × Walk pairs next b

-- i is the least number below n that a chain leads back to itself from.
pub record IsFirstBack (n : ℕ) (pairs : List (ℕ × ℕ)) (i : ℕ) : Type 0 where
  pub within : i < n
  pub back : Reaches pairs i i
  pub first : (j : ℕ) → j < i → Reaches pairs j j → ⊥

-- From no number below n does a chain lead back.
abbrev pub NoneBack : ℕ → List (ℕ × ℕ) → Type 0
NoneBack n pairs = (i : ℕ) → i < n → Reaches pairs i i → ⊥
