-- Following one next place after another.
use Rattle.std.specs.Prelude.{◌≡◌, ◌<◌, ℕ, zero, suc, Option, Some, None}

abbrev pub go_to : (ℕ → ℕ) → ℕ → Option ℕ → ℕ
go_to follow i None = i
go_to follow i (Some j) = follow j

-- where at most n steps lead
abbrev pub follow : (ℕ → Option ℕ) → ℕ → ℕ → ℕ
follow next zero i = i
follow next (suc n) i = go_to (follow next n) i (next i)

-- Each step leads to a lesser rank.
abbrev pub Falls : (ℕ → Option ℕ) → (ℕ → ℕ) → Type 0
Falls next rank = (i j : ℕ) → next i ≡ Some j → rank j < rank i
