-- A quotient of products whose common divisors are cancelled.
use Rattle.std.proofs.Common.{◌≡◌, ◌∙◌, ◌*◌, ◌/◌, ◌^◌, ◌<◌, ◌≤◌, ℕ, zero, suc, refl, sym, ap, subst, arith}
use Rattle.std.specs.Prelude.{Err}
use Prim.Native.Nat.{◌∣◌}
use Rattle.std.proofs.lemmas.Nat.Gcd.{dvd_trans}
use Rattle.std.proofs.lemmas.Bool.Decides.{nat_tests}
use Rattle.std.proofs.Math.Nat.{eq-one_of_dvd-one, dvd-mul_left, mul-le-mul}
use Rattle.unit_core.specs.declared.fault.FractionFault.TheVariants.{Range, Zero}
use Rattle.unit_core.specs.Gcd.{gcd}
use Rattle.unit_core.specs.GcdLaws.{gcd-IsGcd, gcd-comm, gcd-zero, gcd-one_right, dvd_other}
use Rattle.unit_core.specs.Ratio.{Ratio, lowest, quotient, ranged}
use Rattle.unit_core.specs.RatioLaws.{lowest-num, lowest-den, lowest_is, quotient-pos}
use Rattle.unit_core.proofs.RatioLemmas.{lowest_same, lowest_product}

-- What divides one of two numbers without a common divisor has none with the other.
coprime_part : (d x y : ℕ) → gcd x y ≡ 1 → d ∣ y → gcd d x ≡ 1
coprime_part d x y h k =
    let shared : gcd d x ∣ gcd x y = (gcd-IsGcd x y).2 (gcd d x) ((gcd-IsGcd d x).1) (dvd_trans (gcd d x) ((gcd-IsGcd d x).0) k) in
    eq-one_of_dvd-one (subst (λ n. gcd d x ∣ n) h shared)

-- Two numbers without a divisor in common with a third have a product without one.
coprime_product : (x y z : ℕ) → gcd x z ≡ 1 → gcd y z ≡ 1 → gcd (x * y) z ≡ 1
coprime_product x zero z h k = let one : z ≡ 1 = sym (gcd-zero z 0 refl) ∙ (gcd-comm z 0 ∙ k) in subst (λ (w : ℕ). gcd (x * 0) w ≡ 1) (sym one) (gcd-one_right (x * 0))
coprime_product x (suc y) z h k =
    let d = gcd (x * suc y) z in
    let in_y : d ∣ suc y = dvd_other d x (suc y) (coprime_part d x z h ((gcd-IsGcd (x * suc y) z).1)) (omega arith) (subst (λ n. d ∣ n) (omega arith) ((gcd-IsGcd (x * suc y) z).0)) in
    eq-one_of_dvd-one (subst (λ n. d ∣ n) k ((gcd-IsGcd (suc y) z).2 d in_y ((gcd-IsGcd (x * suc y) z).1)))

module _ (a b c d : ℕ) (c_pos : 0 < c) (d_pos : 0 < d) where
  -- Each pair without its common divisor, in turn.
  abbrev first : Ratio
  first = lowest a c

  abbrev second : Ratio
  second = lowest first.num d

  abbrev third : Ratio
  third = lowest b first.den

  abbrev fourth : Ratio
  fourth = lowest third.num second.den

  first_pos : 0 < first.den
  first_pos = (lowest_is a c c_pos).whole

  second_pos : 0 < second.den
  second_pos = (lowest_is first.num d d_pos).whole

  third_pos : 0 < third.den
  third_pos = (lowest_is b first.den first_pos).whole

  fourth_pos : 0 < fourth.den
  fourth_pos = (lowest_is third.num second.den second_pos).whole

  swapped : (x y z w : ℕ) → lowest (x * y) (z * w) ≡ lowest (y * x) (w * z)
  swapped x y z w =
      let upper : x * y ≡ y * x = omega arith in
      let lower : z * w ≡ w * z = omega arith in
      ap (λ (n : ℕ). lowest n (z * w)) upper ∙ ap (λ (n : ℕ). lowest (y * x) n) lower

  same : lowest (second.num * fourth.num) (third.den * fourth.den) ≡ lowest (a * b) (c * d)
  same =
      swapped second.num fourth.num third.den fourth.den
      ∙ (lowest_product third.num second.den second.num third.den second_pos third_pos
      ∙ (ap (λ (n : ℕ). lowest (third.num * second.num) n) (times_comm second.den third.den)
      ∙ (lowest_product b first.den second.num second.den first_pos second_pos
      ∙ (swapped b second.num first.den second.den
      ∙ (lowest_product first.num d b first.den d_pos first_pos
      ∙ (ap (λ (n : ℕ). lowest (first.num * b) n) (times_comm d first.den)
      ∙ lowest_product a c b d c_pos d_pos))))))
    where
      times_comm : (x y : ℕ) → x * y ≡ y * x
      times_comm x y = omega arith

  second_divides : second.num ∣ first.num
  second_divides = subst (λ (n : ℕ). second.num ∣ n) (lowest-num first.num d) (dvd-mul_left second.num (gcd first.num d))

  third_divides : third.den ∣ first.den
  third_divides = subst (λ (n : ℕ). third.den ∣ n) (lowest-den b first.den) (dvd-mul_left third.den (gcd b first.den))

  fourth_num_divides : fourth.num ∣ third.num
  fourth_num_divides = subst (λ (n : ℕ). fourth.num ∣ n) (lowest-num third.num second.den) (dvd-mul_left fourth.num (gcd third.num second.den))

  fourth_den_divides : fourth.den ∣ second.den
  fourth_den_divides = subst (λ (n : ℕ). fourth.den ∣ n) (lowest-den third.num second.den) (dvd-mul_left fourth.den (gcd third.num second.den))

  coprime : gcd (second.num * fourth.num) (third.den * fourth.den) ≡ 1
  coprime =
      let apart : gcd second.num first.den ≡ 1 = coprime_part second.num first.den first.num (gcd-comm first.den first.num ∙ (lowest_is a c c_pos).reduced) second_divides in
      let upper_third : gcd second.num third.den ≡ 1 = gcd-comm second.num third.den ∙ coprime_part third.den second.num first.den apart third_divides in
      let upper_fourth : gcd second.num fourth.den ≡ 1 = gcd-comm second.num fourth.den ∙ coprime_part fourth.den second.num second.den (lowest_is first.num d d_pos).reduced fourth_den_divides in
      let other_third : gcd fourth.num third.den ≡ 1 = coprime_part fourth.num third.den third.num (gcd-comm third.den third.num ∙ (lowest_is b first.den first_pos).reduced) fourth_num_divides in
      let other_fourth : gcd fourth.num fourth.den ≡ 1 = (lowest_is third.num second.den second_pos).reduced in
      let with_third = coprime_product second.num fourth.num third.den upper_third other_third in
      let with_fourth = coprime_product second.num fourth.num fourth.den upper_fourth other_fourth in
      let product = second.num * fourth.num in
      gcd-comm product (third.den * fourth.den) ∙ coprime_product third.den fourth.den product (gcd-comm third.den product ∙ with_third) (gcd-comm fourth.den product ∙ with_fourth)

  pub left_quotient : quotient (second.num * fourth.num) (third.den * fourth.den) ≡ quotient (a * b) (c * d)
  left_quotient = quotient-pos _ _ (mul-le-mul third_pos fourth_pos) ∙ (ap ranged same ∙ sym (quotient-pos (a * b) (c * d) (mul-le-mul c_pos d_pos)))

  -- What is left is in lowest terms, so it is out of range where a part of it is too great.
  left_is : quotient (a * b) (c * d) ≡ ranged (record { num = second.num * fourth.num; den = third.den * fourth.den })
  left_is = sym left_quotient ∙ (quotient-pos _ _ (mul-le-mul third_pos fourth_pos)
      ∙ ap ranged (lowest_same (record { num = second.num * fourth.num; den = third.den * fourth.den }) (mul-le-mul third_pos fourth_pos) coprime))

  pub num_too_great : 2 ^ 128 ≤ second.num * fourth.num → quotient (a * b) (c * d) ≡ Err Range
  num_too_great h = left_is ∙ above (second.num * fourth.num) (third.den * fourth.den) h
    where
      above : (n m : ℕ) → 2 ^ 128 ≤ n → ranged (record { num = n; den = m }) ≡ Err Range
      above n m l = grind (arith, nat_tests)

  pub den_too_great : 2 ^ 128 ≤ third.den * fourth.den → quotient (a * b) (c * d) ≡ Err Range
  den_too_great h = left_is ∙ above (second.num * fourth.num) (third.den * fourth.den) h
    where
      above : (n m : ℕ) → 2 ^ 128 ≤ m → ranged (record { num = n; den = m }) ≡ Err Range
      above n m l = grind (arith, nat_tests)

  -- Pairs that are worked out one after the other are these.
  module _ (one two three four : ℕ × ℕ) (one_num : one.0 ≡ a / gcd a c) (one_den : one.1 ≡ c / gcd a c)
      (two_num : two.0 ≡ one.0 / gcd one.0 d) (two_den : two.1 ≡ d / gcd one.0 d)
      (three_num : three.0 ≡ b / gcd b one.1) (three_den : three.1 ≡ one.1 / gcd b one.1)
      (four_num : four.0 ≡ three.0 / gcd three.0 two.1) (four_den : four.1 ≡ two.1 / gcd three.0 two.1) where
    is_second_num : two.0 ≡ second.num
    is_second_num = two_num ∙ ap (λ (n : ℕ). n / gcd n d) one_num

    is_second_den : two.1 ≡ second.den
    is_second_den = two_den ∙ ap (λ (n : ℕ). d / gcd n d) one_num

    is_third_num : three.0 ≡ third.num
    is_third_num = three_num ∙ ap (λ (n : ℕ). b / gcd b n) one_den

    is_third_den : three.1 ≡ third.den
    is_third_den = three_den ∙ ap (λ (n : ℕ). n / gcd b n) one_den

    is_fourth_num : four.0 ≡ fourth.num
    is_fourth_num = four_num ∙ (ap (λ (n : ℕ). n / gcd n two.1) is_third_num ∙ ap (λ (n : ℕ). third.num / gcd third.num n) is_second_den)

    is_fourth_den : four.1 ≡ fourth.den
    is_fourth_den = four_den ∙ (ap (λ (n : ℕ). two.1 / gcd n two.1) is_third_num ∙ ap (λ (n : ℕ). n / gcd third.num n) is_second_den)

    upper_is : two.0 * four.0 ≡ second.num * fourth.num
    upper_is = ap (λ (n : ℕ). n * four.0) is_second_num ∙ ap (λ (n : ℕ). second.num * n) is_fourth_num

    lower_is : three.1 * four.1 ≡ third.den * fourth.den
    lower_is = ap (λ (n : ℕ). n * four.1) is_third_den ∙ ap (λ (n : ℕ). third.den * n) is_fourth_den

    pub whole_quotient : quotient (two.0 * four.0) (three.1 * four.1) ≡ quotient (a * b) (c * d)
    whole_quotient = ap (λ (n : ℕ). quotient n (three.1 * four.1)) upper_is ∙ (ap (λ (n : ℕ). quotient (second.num * fourth.num) n) lower_is ∙ left_quotient)

    pub upper_too_great : 2 ^ 128 ≤ two.0 * four.0 → quotient (a * b) (c * d) ≡ Err Range
    upper_too_great h = num_too_great (subst (λ (n : ℕ). 2 ^ 128 ≤ n) upper_is h)

    pub lower_too_great : 2 ^ 128 ≤ three.1 * four.1 → quotient (a * b) (c * d) ≡ Err Range
    lower_too_great h = den_too_great (subst (λ (n : ℕ). 2 ^ 128 ≤ n) lower_is h)

-- A lower number is still above zero.
pub lower_pos : (a c x : ℕ) → 0 < c → x ≡ c / gcd a c → 0 < x
lower_pos a c x p e = subst (λ (n : ℕ). 0 < n) (sym e) (lowest_is a c p).whole

pub no_lower : (a b c d : ℕ) → (c ≡ 0) → quotient (a * b) (c * d) ≡ Err Zero
unfolding quotient
no_lower a b c d e = let none : c * d ≡ 0 = rw e (omega arith) in rw none refl

pub no_other_lower : (a b c d : ℕ) → (d ≡ 0) → quotient (a * b) (c * d) ≡ Err Zero
unfolding quotient
no_other_lower a b c d e = let none : c * d ≡ 0 = rw e (omega arith) in rw none refl
