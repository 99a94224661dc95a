-- The greatest common divisor, by Euclid's steps.
use Rattle.std.proofs.Common.{refl, sym, ◌∙◌, ap, arith, subst}
use Rattle.std.proofs.Math.Nat.{mod-lt, div-add-mod, dvd-mul_left, mul-lt-mul_of_pos_left, mul-zero, eq-one_of_dvd-one}
use Rattle.std.proofs.lemmas.Nat.Gcd.{IsGcd-from_zero, IsGcd-from_mod, IsGcd-swap, same_from_IsGcd}
use Rattle.std.proofs.lemmas.Nat.{mod-mul-add}
use Rattle.std.specs.Int.{IsGcd}
use Rattle.std.specs.Prelude.{◌≡◌, ℕ, zero, suc, ◌+◌, ◌*◌, ◌/◌, ◌%◌, ◌<◌, ◌≤◌}
use Prim.Native.Nat.{◌∣◌}
use Rattle.unit_core.specs.Gcd.{gcd, gcd_within}

-- It divides both, and each common divisor divides it.
pub gcd-IsGcd : (a b : ℕ) → IsGcd a b (gcd a b)
unfolding gcd gcd_within
gcd-IsGcd a b = within b a b (omega arith)
  where
    within : (n a b : ℕ) → b ≤ n → IsGcd a b (gcd_within n a b)
    within zero a b h = IsGcd-from_zero a b (omega arith)
    within (suc n) a zero h = IsGcd-from_zero a zero refl
    within (suc n) a (suc b) h =
        let less : a % suc b < suc b = mod-lt a (omega arith) in
        IsGcd-from_mod a (suc b) _ (within n (suc b) (a % suc b) (omega arith))

pub gcd-zero : (a b : ℕ) → b ≡ 0 → gcd a b ≡ a
gcd-zero a b h = same_from_IsGcd a b _ _ (gcd-IsGcd a b) (IsGcd-from_zero a b h)

pub gcd-mod : (a b : ℕ) → gcd a b ≡ gcd b (a % b)
gcd-mod a b = same_from_IsGcd a b _ _ (gcd-IsGcd a b) (IsGcd-from_mod a b _ (gcd-IsGcd b (a % b)))

pub gcd-comm : (a b : ℕ) → gcd a b ≡ gcd b a
gcd-comm a b = same_from_IsGcd a b _ _ (gcd-IsGcd a b) (IsGcd-swap b a _ (gcd-IsGcd b a))

pub gcd-one_right : (a : ℕ) → gcd a 1 ≡ 1
gcd-one_right a = eq-one_of_dvd-one ((gcd-IsGcd a 1).1)

pub gcd-one_left : (b : ℕ) → gcd 1 b ≡ 1
gcd-one_left b = eq-one_of_dvd-one ((gcd-IsGcd 1 b).0)

scaled_mod : (k a b : ℕ) → 0 < k → 0 < b → (k * a) % (k * b) ≡ k * (a % b)
scaled_mod k a b h p =
    let split : k * a ≡ a / b * (k * b) + k * (a % b) = ap (λ x. k * x) (sym (div-add-mod a b)) ∙ omega arith in
    let less : k * (a % b) < k * b = mul-lt-mul_of_pos_left (mod-lt a p) h in
    ap (λ x. x % (k * b)) split ∙ mod-mul-add (a / b) (k * b) (k * (a % b)) less

-- A common factor comes out.
pub gcd-mul : (k a b : ℕ) → 0 < k → gcd (k * a) (k * b) ≡ k * gcd a b
unfolding gcd gcd_within
gcd-mul k a b p = same_from_IsGcd (k * a) (k * b) _ _ (gcd-IsGcd (k * a) (k * b)) (within b a b (omega arith))
  where
    within : (n a b : ℕ) → b ≤ n → IsGcd (k * a) (k * b) (k * gcd_within n a b)
    within zero a b h = IsGcd-from_zero (k * a) (k * b) (let e : b ≡ 0 = omega arith in ap (λ x. k * x) e ∙ mul-zero k)
    within (suc n) a zero h = IsGcd-from_zero (k * a) (k * 0) (omega arith)
    within (suc n) a (suc b) h =
        let less : a % suc b < suc b = mod-lt a (omega arith) in
        IsGcd-from_mod (k * a) (k * suc b) _ (rw (scaled_mod k a (suc b) p (omega arith)) (within n (suc b) (a % suc b) (omega arith)))

-- What divides a product, and has no divisor in common with one factor, divides the other.
pub dvd_other : (a b c : ℕ) → gcd a b ≡ 1 → 0 < c → a ∣ c * b → a ∣ c
dvd_other a b c h p d =
    let scaled : gcd (c * a) (c * b) ≡ c = gcd-mul c a b p ∙ ap (λ x. c * x) h ∙ omega arith in
    subst (λ x. a ∣ x) scaled ((gcd-IsGcd (c * a) (c * b)).2 a (dvd-mul_left a c) d)
