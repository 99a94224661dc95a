-- Quotients of whole numbers in lowest terms.
use Rattle.std.proofs.Common.{refl, sym, ◌∙◌, ap, arith}
use Rattle.std.proofs.Math.Nat.{mul-le-mul}
use Rattle.std.proofs.lemmas.Bool.Decides.{nat_tests}
use Rattle.std.specs.Prelude.{◌≡◌, ℕ, ◌*◌, ◌<◌, ◌≤◌, Ok}
use Rattle.unit_core.specs.Gcd.{gcd}
use Rattle.unit_core.specs.Range.{greatest_part}
use Rattle.unit_core.specs.Ratio.{Ratio, lowest, quotient, ranged}
use Rattle.unit_core.specs.RatioLaws.{divisor_pos, lowest-den, lowest-num, lowest-num_pos, lowest_is, lowest_only, lowest_scaled, quotient-pos, quotient_ok}

-- What is in lowest terms stays.
pub lowest_same : (r : Ratio) → 0 < r.den → gcd r.num r.den ≡ 1 → lowest r.num r.den ≡ r
lowest_same r p h = sym (lowest_only r.num r.den r p (record { same = refl; whole = p; reduced = h }))

-- To multiply in lowest terms, and then to reduce, is to reduce once.
pub lowest_product : (a b n d : ℕ) → 0 < b → 0 < d → lowest ((lowest a b).num * n) ((lowest a b).den * d) ≡ lowest (a * n) (b * d)
lowest_product a b n d p q =
    at (gcd a b) (lowest a b).num (lowest a b).den (lowest-num a b) (lowest-den a b) (divisor_pos a b p) (lowest_is a b p).whole
  where
    at : (g x y : ℕ) → g * x ≡ a → g * y ≡ b → 0 < g → 0 < y → lowest (x * n) (y * d) ≡ lowest (a * n) (b * d)
    at g x y e f h w =
        let once : lowest (g * (x * n)) (g * (y * d)) ≡ lowest (x * n) (y * d) = lowest_scaled g (x * n) (y * d) h (mul-le-mul w q) in
        let num : g * (x * n) ≡ a * n = omega arith ∙ ap (λ v. v * n) e in
        let den : g * (y * d) ≡ b * d = omega arith ∙ ap (λ v. v * d) f in
        sym once ∙ (ap (λ v. lowest v (g * (y * d))) num ∙ ap (λ v. lowest (a * n) v) den)

pub quotient-num_pos : (a b : ℕ) (r : Ratio) → Ok r ≡ quotient a b → 0 < a → 0 < r.num
quotient-num_pos a b r e p = let k = quotient_ok a b r e in rw k.1 (lowest-num_pos a b p)

-- What is in lowest terms and in range is its own quotient.
pub quotient_same : (r : Ratio) → 0 < r.den → gcd r.num r.den ≡ 1 → r.num ≤ greatest_part → r.den ≤ greatest_part → quotient r.num r.den ≡ Ok r
quotient_same r p h n d = quotient-pos r.num r.den p ∙ (ap ranged (lowest_same r p h) ∙ fits)
  where
    fits : ranged r ≡ Ok r
    fits = grind (arith, nat_tests)
