-- Quotients of whole numbers in lowest terms.
use Rattle.std.proofs.Common.{refl, sym, ◌∙◌, ap, arith, subst}
use Rattle.std.proofs.Math.Nat.{mul-div_cancel', dvd_antisymm, dvd-mul_left, pos_of_dvd_of_pos, eq_of_mul-eq-mul_left, eq_of_mul-eq-mul_right, mul-le-mul}
use Rattle.std.proofs.lemmas.Bool.Decides.{nat_tests}
use Rattle.std.specs.Prelude.{◌≡◌, ℕ, zero, suc, ◌*◌, ◌<◌, ◌≤◌, Ok}
use Prim.Native.Nat.{◌∣◌}
use Rattle.unit_core.specs.Gcd.{gcd}
use Rattle.unit_core.specs.GcdLaws.{gcd-IsGcd, gcd-comm, gcd-mul, dvd_other}
use Rattle.unit_core.specs.Range.{greatest_part}
use Rattle.unit_core.specs.Ratio.{IsInLowestTerms, Ratio, lowest, quotient, ranged}

pub divisor_pos : (a b : ℕ) → 0 < b → 0 < gcd a b
divisor_pos a b p = pos_of_dvd_of_pos ((gcd-IsGcd a b).1) p

-- What the parts are multiplied by to give a and b.
pub lowest-num : (a b : ℕ) → gcd a b * (lowest a b).num ≡ a
lowest-num a b = mul-div_cancel' (gcd a b) ((gcd-IsGcd a b).0)

pub lowest-den : (a b : ℕ) → gcd a b * (lowest a b).den ≡ b
lowest-den a b = mul-div_cancel' (gcd a b) ((gcd-IsGcd a b).1)

pub lowest_is : (a b : ℕ) → 0 < b → IsInLowestTerms a b (lowest a b)
lowest_is a b p = record {
  same = same (gcd a b) (lowest a b).num (lowest a b).den (lowest-num a b) (lowest-den a b);
  whole = whole (gcd a b) (lowest a b).den (lowest-den a b);
  reduced = reduced (gcd a b) (lowest a b).num (lowest a b).den (lowest-num a b) (lowest-den a b) (divisor_pos a b p) refl;
}
  where
    same : (g n d : ℕ) → g * n ≡ a → g * d ≡ b → n * b ≡ a * d
    same g n d e f = ap (λ x. n * x) (sym f) ∙ (omega arith ∙ ap (λ x. x * d) e)

    whole : (g d : ℕ) → g * d ≡ b → 0 < d
    whole g zero f = absurd (omega arith)
    whole g (suc d) f = omega arith

    reduced : (g n d : ℕ) → g * n ≡ a → g * d ≡ b → 0 < g → gcd a b ≡ g → gcd n d ≡ 1
    reduced g n d e f h is =
        let factor : gcd (g * n) (g * d) ≡ g * gcd n d = gcd-mul g n d h in
        let one : g ≡ g * 1 = omega arith in
        eq_of_mul-eq-mul_left g h (gcd n d) 1 (cc)

same_parts : (x y : Ratio) → x.num ≡ y.num → x.den ≡ y.den → x ≡ y
same_parts x y e f =
    ap (λ (n : ℕ). let r : Ratio = record { num = n; den = x.den } in r) e ∙ ap (λ (d : ℕ). let r : Ratio = record { num = y.num; den = d } in r) f

-- Two ratios in lowest terms are equal where their cross products are.
pub same_from_cross : (x y : Ratio) → 0 < x.den → 0 < y.den → gcd x.num x.den ≡ 1 → gcd y.num y.den ≡ 1 → x.num * y.den ≡ y.num * x.den → x ≡ y
same_from_cross x y p q h k e =
    let forth : x.den ∣ y.den = dvd_other x.den x.num y.den (gcd-comm x.den x.num ∙ h) q (subst (λ v. x.den ∣ v) (sym e ∙ omega arith) (dvd-mul_left x.den y.num)) in
    let back : y.den ∣ x.den = dvd_other y.den y.num x.den (gcd-comm y.den y.num ∙ k) p (subst (λ v. y.den ∣ v) (e ∙ omega arith) (dvd-mul_left y.den x.num)) in
    let dens : x.den ≡ y.den = dvd_antisymm forth back in
    same_parts x y (eq_of_mul-eq-mul_right y.den q x.num y.num (e ∙ ap (λ v. y.num * v) dens)) dens

pub lowest_only : (a b : ℕ) (r : Ratio) → 0 < b → IsInLowestTerms a b r → r ≡ lowest a b
lowest_only a b r p t =
    let l = lowest_is a b p in
    same_from_cross r (lowest a b) t.whole l.whole t.reduced l.reduced
    (cross (gcd a b) (lowest a b).num (lowest a b).den (lowest-num a b) (lowest-den a b) (divisor_pos a b p))
  where
    cross : (g n d : ℕ) → g * n ≡ a → g * d ≡ b → 0 < g → r.num * d ≡ n * r.den
    cross g n d e f h =
        eq_of_mul-eq-mul_left g h (r.num * d) (n * r.den) (omega arith ∙ (ap (λ v. r.num * v) f ∙ (t.same ∙ (ap (λ v. v * r.den) (sym e) ∙ omega arith))))

-- A common factor changes nothing.
pub lowest_scaled : (k a b : ℕ) → 0 < k → 0 < b → lowest (k * a) (k * b) ≡ lowest a b
lowest_scaled k a b h p =
    let l = lowest_is a b p in
    let twice : k * ((lowest a b).num * b) ≡ k * (a * (lowest a b).den) = ap (λ x. k * x) l.same in
    let same : (lowest a b).num * (k * b) ≡ (k * a) * (lowest a b).den = omega arith in
    sym (lowest_only (k * a) (k * b) (lowest a b) (mul-le-mul h p) (record { same = same; whole = l.whole; reduced = l.reduced }))

pub lowest-num_pos : (a b : ℕ) → 0 < a → 0 < (lowest a b).num
lowest-num_pos a b p = pos (gcd a b) (lowest a b).num (lowest-num a b)
  where
    pos : (g n : ℕ) → g * n ≡ a → 0 < n
    pos g zero e = absurd (omega arith)
    pos g (suc n) e = omega arith

ranged_ok : (x r : Ratio) → Ok r ≡ ranged x → (r ≡ x) × (r.num ≤ greatest_part) × (r.den ≤ greatest_part)
ranged_ok x r e = grind (arith, nat_tests)

-- What a quotient is, where there is one.
pub quotient_ok : (a b : ℕ) (r : Ratio) → Ok r ≡ quotient a b → (0 < b) × (r ≡ lowest a b) × (r.num ≤ greatest_part) × (r.den ≤ greatest_part)
unfolding quotient
quotient_ok a zero r e = absurd (cc)
quotient_ok a (suc b) r e = let k = ranged_ok (lowest a (suc b)) r e in (omega arith, k.0, k.1, k.2)

pub quotient-pos : (a b : ℕ) → 0 < b → quotient a b ≡ ranged (lowest a b)
unfolding quotient
quotient-pos a zero p = absurd (omega arith)
quotient-pos a (suc b) p = refl
