-- Quotients of numbers times powers of ten.
use Rattle.std.proofs.Common.{◌≡◌, ◌∙◌, ◌+◌, ◌-◌, ◌*◌, ◌^◌, ◌<◌, ◌≤◌, ℕ, Bool, true, false, refl, sym, ap, subst, arith}
use Rattle.std.proofs.Math.Nat.{le_of_dvd, le_of_mul-le-mul_left, mul-le-mul, mul-le-mul_right, one-le-pow, pow-le-pow_right}
use Rattle.std.proofs.lemmas.Bool.{leb-true, leb-false}
use Rattle.std.proofs.lemmas.Bool.Decides.{nat_tests}
use Rattle.std.proofs.lemmas.Nat.{pow-add}
use Rattle.std.specs.Prelude.{Err, min, nat_le}
use Rattle.unit_core.specs.Gcd.{gcd}
use Rattle.unit_core.specs.GcdLaws.{gcd-IsGcd}
use Rattle.unit_core.specs.Ratio.{Ratio, lowest, quotient, ranged}
use Rattle.unit_core.specs.RatioLaws.{lowest-num, lowest-den, lowest_scaled, quotient-pos}
use Rattle.unit_core.specs.declared.fault.FractionFault.TheVariants.{Range, Zero}

ten_pow_pos : (n : ℕ) → 0 < 10 ^ n
ten_pow_pos n = one-le-pow n 10 (omega arith)

tens_pos : (b n : ℕ) → 0 < b → 0 < b * 10 ^ n
tens_pos b n p = mul-le-mul p (ten_pow_pos n)

pub few_tens_fit : (low : ℕ) → low ≤ 38 → 10 ^ low < 2 ^ 128
few_tens_fit low h = let most : 10 ^ low ≤ 10 ^ 38 = pow-le-pow_right (omega arith) h in omega arith

pub split_tens : (x n low : ℕ) → low ≤ n → x * 10 ^ (n - low) * 10 ^ low ≡ x * 10 ^ n
split_tens x n low h = inner x (10 ^ (n - low)) (10 ^ low) ∙ ap (λ v. x * v) (sym (pow-add 10 (n - low) low) ∙ ap (λ j. 10 ^ j) (let e : n - low + low ≡ n = omega arith in e))
  where
    inner : (x u v : ℕ) → x * u * v ≡ x * (u * v)
    inner x u v = omega arith

-- Where a number passes 128 bits before its last 38 tens, it is more than 38 tens past them.
pub too_great_product : (x n low : ℕ) → low ≡ min n 38 → x < 2 ^ 128 → 2 ^ 128 ≤ x * 10 ^ (n - low) → (38 < n) × (2 ^ 128 * 10 ^ 38 ≤ x * 10 ^ n)
too_great_product x n low e r h = go (nat_le n 38) refl
  where
    go : (t : Bool) → nat_le n 38 ≡ t → (38 < n) × (2 ^ 128 * 10 ^ 38 ≤ x * 10 ^ n)
    go true k =
        let few : n ≤ 38 = leb-true n 38 k in
        let none : n - low ≡ 0 = omega arith in
        let same : x * 10 ^ (n - low) ≡ x = ap (λ j. x * 10 ^ j) none ∙ omega arith in
        absurd (omega arith)
    go false k =
        let many : 38 < n = leb-false n 38 k in
        let all : low ≡ 38 = omega arith in
        let less : 2 ^ 128 * 10 ^ 38 ≤ x * 10 ^ (n - 38) * 10 ^ 38 = mul-le-mul_right (10 ^ 38) (subst (λ j. 2 ^ 128 ≤ x * 10 ^ (n - j)) all h) in
        (many, subst (λ v. 2 ^ 128 * 10 ^ 38 ≤ v) (split_tens x n 38 (omega arith)) less)

pub too_great_power : (x n low : ℕ) → low ≡ min n 38 → 0 < x → x < 2 ^ 128 → 2 ^ 128 ≤ 10 ^ (n - low) → (38 < n) × (2 ^ 128 * 10 ^ 38 ≤ x * 10 ^ n)
too_great_power x n low e p r h = let more : 1 * 10 ^ (n - low) ≤ x * 10 ^ (n - low) = mul-le-mul_right (10 ^ (n - low)) p in too_great_product x n low e r (omega arith)

-- Common tens cancel.
pub cancelled_tens : (a b p q s : ℕ) → 0 < b → s ≤ p → s ≤ q → quotient (a * 10 ^ (p - s)) (b * 10 ^ (q - s)) ≡ quotient (a * 10 ^ p) (b * 10 ^ q)
cancelled_tens a b p q s h k l =
    quotient-pos _ _ (tens_pos b (q - s) h)
    ∙ (ap ranged (sym (lowest_scaled (10 ^ s) (a * 10 ^ (p - s)) (b * 10 ^ (q - s)) (ten_pow_pos s) (tens_pos b (q - s) h))
    ∙ (ap (λ v. lowest v (10 ^ s * (b * 10 ^ (q - s)))) (back a p k) ∙ ap (λ v. lowest (a * 10 ^ p) v) (back b q l)))
    ∙ sym (quotient-pos _ _ (tens_pos b q h)))
  where
    turned : (u v : ℕ) → u * v ≡ v * u
    turned u v = omega arith

    back : (x n : ℕ) → s ≤ n → 10 ^ s * (x * 10 ^ (n - s)) ≡ x * 10 ^ n
    back x n m = turned (10 ^ s) (x * 10 ^ (n - s)) ∙ split_tens x n s m

-- What is left of a large number after a division by a smaller one.
at_least : (g n a m k : ℕ) → g * n ≡ a → g ≤ m → 0 < m → m * k ≤ a → k ≤ n
at_least g n a m k e l p h = let more : g * n ≤ m * n = mul-le-mul_right n l in let less : m * k ≤ m * n = omega arith in le_of_mul-le-mul_left less p

upper_too_great : (a b : ℕ) → 0 < b → b < 2 ^ 128 → 2 ^ 128 * 10 ^ 38 ≤ a → quotient a b ≡ Err Range
upper_too_great a b p r h =
    let divides : gcd a b ≤ b = le_of_dvd p ((gcd-IsGcd a b).1) in
    quotient-pos a b p ∙ above (lowest a b) (at_least (gcd a b) (lowest a b).num a (2 ^ 128) (10 ^ 38) (lowest-num a b) (omega arith) (omega arith) h)
  where
    above : (r : Ratio) → 10 ^ 38 ≤ r.num → ranged r ≡ Err Range
    above r k = grind (arith, nat_tests)

lower_too_great : (a b : ℕ) → 0 < a → a < 2 ^ 128 → 2 ^ 128 * 10 ^ 38 ≤ b → quotient a b ≡ Err Range
lower_too_great a b p r h =
    let divides : gcd a b ≤ a = le_of_dvd p ((gcd-IsGcd a b).0) in
    quotient-pos a b (omega arith) ∙ above (lowest a b) (at_least (gcd a b) (lowest a b).den b (2 ^ 128) (10 ^ 38) (lowest-den a b) (omega arith) (omega arith) h)
  where
    above : (r : Ratio) → 10 ^ 38 ≤ r.den → ranged r ≡ Err Range
    above r k = grind (arith, nat_tests)

pub no_divisor : (a b n : ℕ) → b ≡ 0 → quotient a (b * 10 ^ n) ≡ Err Zero
unfolding quotient
no_divisor a b n e = let none : b * 10 ^ n ≡ 0 = rw e (omega arith) in rw none refl

-- Zero over anything is zero.
pub zero_over : (a b p q : ℕ) → a ≡ 0 → 0 < b → quotient 0 1 ≡ quotient (a * 10 ^ p) (b * 10 ^ q)
zero_over a b p q e h =
    let k : ℕ = b * 10 ^ q in
    let upper : k * 0 ≡ a * 10 ^ p = rw e (omega arith) in
    let lower : k * 1 ≡ b * 10 ^ q = omega arith in
    quotient-pos 0 1 (omega arith)
    ∙ (ap ranged (sym (lowest_scaled k 0 1 (tens_pos b q h) (omega arith)) ∙ (ap (λ v. lowest v (k * 1)) upper ∙ ap (λ v. lowest (a * 10 ^ p) v) lower))
    ∙ sym (quotient-pos _ _ (tens_pos b q h)))

-- Each number has its own decimals and the other's. Those that both have cancel, and one of the two has no more.
module _ (a b p q s : ℕ) (e : s ≡ min q p) (h : 0 < b) where
  pub too_great_over : b < 2 ^ 128 → 38 < p - s → 2 ^ 128 * 10 ^ 38 ≤ a * 10 ^ (p - s) → quotient (a * 10 ^ p) (b * 10 ^ q) ≡ Err Range
  too_great_over r f k =
      let none : q - s ≡ 0 = omega arith in
      let same : b * 10 ^ (q - s) ≡ b = ap (λ j. b * 10 ^ j) none ∙ omega arith in
      sym (cancelled_tens a b p q s h (omega arith) (omega arith)) ∙ (ap (λ v. quotient (a * 10 ^ (p - s)) v) same ∙ upper_too_great (a * 10 ^ (p - s)) b h r k)

  pub too_great_under : 0 < a → a < 2 ^ 128 → 38 < q - s → 2 ^ 128 * 10 ^ 38 ≤ b * 10 ^ (q - s) → quotient (a * 10 ^ p) (b * 10 ^ q) ≡ Err Range
  too_great_under w r f k =
      let none : p - s ≡ 0 = omega arith in
      let same : a * 10 ^ (p - s) ≡ a = ap (λ j. a * 10 ^ j) none ∙ omega arith in
      sym (cancelled_tens a b p q s h (omega arith) (omega arith)) ∙ (ap (λ v. quotient v (b * 10 ^ (q - s))) same ∙ lower_too_great a (b * 10 ^ (q - s)) w r k)

  pub whole_quotient : (x y : ℕ) → x ≡ a * 10 ^ (p - s) → y ≡ b * 10 ^ (q - s) → quotient x y ≡ quotient (a * 10 ^ p) (b * 10 ^ q)
  whole_quotient x y f g = ap (λ v. quotient v y) f ∙ (ap (λ v. quotient (a * 10 ^ (p - s)) v) g ∙ cancelled_tens a b p q s h (omega arith) (omega arith))
