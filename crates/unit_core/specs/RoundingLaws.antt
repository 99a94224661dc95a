-- Quotients rounded up and down to whole numbers.
use Rattle.std.proofs.Common.{sym, ◌∙◌, ap, arith}
use Rattle.std.proofs.Math.Nat.{mul-div-le, mul-div-mul_left, lt-mul-div-succ, div-lt_iff_lt-mul, le_antisymm, le_of_mul-le-mul_left, mul-le-mul_left, mul-le-mul}
use Rattle.std.proofs.lemmas.Nat.{le-div}
use Rattle.std.specs.Prelude.{◌≡◌, ℕ, ◌+◌, ◌-◌, ◌*◌, ◌<◌, ◌≤◌}
use Rattle.unit_core.specs.Gcd.{gcd}
use Rattle.unit_core.specs.Ratio.{lowest}
use Rattle.unit_core.specs.RatioLaws.{lowest-num, lowest-den, lowest_is, divisor_pos}
use Rattle.unit_core.specs.Rounding.{IsRoundedDown, IsRoundedUp, ceiling, floor}

pub floor_is : (a d : ℕ) → 0 < d → IsRoundedDown a d (floor a d)
floor_is a d p = (mul-div-le a d, λ z h. le-div z a d p (omega arith))

pub ceiling_is : (a d : ℕ) → 0 < d → IsRoundedUp a d (ceiling a d)
ceiling_is a d p =
    let above : a + (d - 1) < d * (ceiling a d + 1) = lt-mul-div-succ (a + (d - 1)) p in
    (omega arith, λ z h. let below : ceiling a d < z + 1 = (div-lt_iff_lt-mul p).1 (omega arith) in omega arith)

pub IsRoundedUp_only : (a d y z : ℕ) → IsRoundedUp a d y → IsRoundedUp a d z → y ≡ z
IsRoundedUp_only a d y z u v = le_antisymm (u.1 z v.0) (v.1 y u.0)

pub floor_scaled : (k a d : ℕ) → 0 < k → floor (k * a) (k * d) ≡ floor a d
floor_scaled k a d h = mul-div-mul_left a d h

pub ceiling_scaled : (k a d : ℕ) → 0 < k → 0 < d → ceiling (k * a) (k * d) ≡ ceiling a d
ceiling_scaled k a d h p =
    let up : IsRoundedUp a d (ceiling a d) = ceiling_is a d p in
    let more : 0 < k * d = mul-le-mul h p in
    IsRoundedUp_only (k * a) (k * d) _ _ (ceiling_is (k * a) (k * d) more)
    (scaled (ceiling a d) up.0, λ z g. up.1 z (le_of_mul-le-mul_left (let e : k * a ≤ k * (d * z) = omega arith in e) h))
  where
    scaled : (y : ℕ) → a ≤ d * y → k * a ≤ k * d * y
    scaled y g = let e : k * a ≤ k * (d * y) = mul-le-mul_left k g in omega arith

-- To round a over b in lowest terms is to round a over b.
pub floor_lowest : (a b : ℕ) → 0 < b → floor (lowest a b).num (lowest a b).den ≡ floor a b
floor_lowest a b p = at (gcd a b) (lowest a b).num (lowest a b).den (lowest-num a b) (lowest-den a b) (divisor_pos a b p)
  where
    at : (g n d : ℕ) → g * n ≡ a → g * d ≡ b → 0 < g → floor n d ≡ floor a b
    at g n d e f h = let s : floor (g * n) (g * d) ≡ floor n d = floor_scaled g n d h in cc

pub ceiling_lowest : (a b : ℕ) → 0 < b → ceiling (lowest a b).num (lowest a b).den ≡ ceiling a b
ceiling_lowest a b p =
    at (gcd a b) (lowest a b).num (lowest a b).den (lowest-num a b) (lowest-den a b) (divisor_pos a b p) (lowest_is a b p).whole
  where
    at : (g n d : ℕ) → g * n ≡ a → g * d ≡ b → 0 < g → 0 < d → ceiling n d ≡ ceiling a b
    at g n d e f h w = let s : ceiling (g * n) (g * d) ≡ ceiling n d = ceiling_scaled g n d h w in sym s ∙ (ap (λ x. ceiling x (g * d)) e ∙ ap (λ x. ceiling a x) f)
