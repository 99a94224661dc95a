-- Different numbers that a test relates both ways.
use Rattle.std.specs.Prelude.{◌<◌, ◌≤◌, ℕ, Bool, IsTrue}

abbrev pub AreMutual : (ℕ → ℕ → Bool) → ℕ → ℕ → Type 0
AreMutual below a b = IsTrue (below a b) × IsTrue (below b a)

-- b is the first such number above a and below n.
pub record IsFirstPartner (below : ℕ → ℕ → Bool) (n a b : ℕ) : Type 0 where
  pub above : a < b
  pub within : b < n
  pub related : AreMutual below a b
  pub first : (y : ℕ) → a < y → y < b → AreMutual below a y → ⊥

-- They are the first two such numbers below n, by a and then by b.
pub record IsFirstMutual (below : ℕ → ℕ → Bool) (n a b : ℕ) : Type 0 where
  pub partner : IsFirstPartner below n a b
  pub first : (x y : ℕ) → x < y → y < n → AreMutual below x y → a ≤ x

-- No two different numbers below n are such.
abbrev pub NoneMutual : (ℕ → ℕ → Bool) → ℕ → Type 0
NoneMutual below n = (x y : ℕ) → x < y → y < n → AreMutual below x y → ⊥
