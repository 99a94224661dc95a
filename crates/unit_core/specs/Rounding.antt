-- Quotients rounded up and down to whole numbers.
use Rattle.std.specs.Prelude.{ℕ, ◌+◌, ◌-◌, ◌*◌, ◌/◌, ◌≤◌}

abbrev pub floor : ℕ → ℕ → ℕ
floor a d = a / d

abbrev pub ceiling : ℕ → ℕ → ℕ
ceiling a d = (a + (d - 1)) / d

-- the greatest whole number y with d * y at most a
abbrev pub IsRoundedDown : ℕ → ℕ → ℕ → Type 0
IsRoundedDown a d y = (d * y ≤ a) × ((z : ℕ) → d * z ≤ a → z ≤ y)

-- the least whole number y with d * y at least a
abbrev pub IsRoundedUp : ℕ → ℕ → ℕ → Type 0
IsRoundedUp a d y = (a ≤ d * y) × ((z : ℕ) → a ≤ d * z → y ≤ z)
