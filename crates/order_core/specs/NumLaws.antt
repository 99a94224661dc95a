-- What is made of numbers is a number, and is the greater the greater they are.
use Rattle.std.proofs.Common.{refl, arith, ap, subst, ◌∙◌}
use Rattle.std.proofs.Math.Nat.{mul-le-mul, mul_comm, zero-mul}
use Rattle.std.proofs.lemmas.Bool.Decides.{nat_tests}
use Rattle.std.proofs.lemmas.Bool.{cond-true, leb-true, eqb-true}
use Rattle.std.specs.Prelude.{◌≡◌, ◌+◌, ◌*◌, ℕ, Bool, true, false, cond, nat_le, nat_eq, IsTrue, ◌≤◌}
use Rattle.order_core.specs.Num.{is_number, number_leq, greater_of, lesser_of, count_or_top, number_sum, number_product}
use Rattle.order_core.specs.Order.{IsOrder}
use Rattle.order_core.specs.declared.num.Num.TheVariants.{Count, Top}
use Rattle.order_core.specs.declared.num.Num.{Num}

pub number_laws : IsOrder is_number number_leq
number_laws = record { reflexive = reflexive; transitive = transitive; antisymmetric = antisymmetric }
  where
    reflexive : (x : Num) → IsTrue (is_number x) → IsTrue (number_leq x x)
    reflexive (Count a) h = grind (arith, nat_tests)
    reflexive Top h = refl

    transitive : (x y z : Num) → IsTrue (is_number x) → IsTrue (is_number y) → IsTrue (is_number z) → IsTrue (number_leq x y) → IsTrue (number_leq y z) → IsTrue (number_leq x z)
    transitive (Count a) (Count b) (Count c) _ _ _ p q = grind (arith, nat_tests, p, q)
    transitive (Count a) y Top _ _ _ p q = refl
    transitive (Count a) Top (Count c) _ _ _ p q = absurd (cc)
    transitive Top (Count b) z _ _ _ p q = absurd (cc)
    transitive Top Top (Count c) _ _ _ p q = absurd (cc)
    transitive Top Top Top _ _ _ p q = refl

    antisymmetric : (x y : Num) → IsTrue (is_number x) → IsTrue (is_number y) → IsTrue (number_leq x y) → IsTrue (number_leq y x) → x ≡ y
    antisymmetric (Count a) (Count b) _ _ p q = let same : a ≡ b = grind (arith, nat_tests, p, q) in ap Count same
    antisymmetric (Count a) Top _ _ p q = absurd (cc)
    antisymmetric Top (Count b) _ _ p q = absurd (cc)
    antisymmetric Top Top _ _ p q = refl

pub count_or_top_number : (n : ℕ) → IsTrue (is_number (count_or_top n))
count_or_top_number n = go (nat_le n 10000000000000000000) refl
  where
    go : (t : Bool) → nat_le n 10000000000000000000 ≡ t → IsTrue (is_number (cond t (Count n) Top))
    go true e = e
    go false e = refl

pub count_or_top_monotone : (n m : ℕ) → n ≤ m → IsTrue (number_leq (count_or_top n) (count_or_top m))
count_or_top_monotone n m l = go (nat_le n 10000000000000000000) (nat_le m 10000000000000000000) refl refl
  where
    go : (s t : Bool) → nat_le n 10000000000000000000 ≡ s → nat_le m 10000000000000000000 ≡ t → IsTrue (number_leq (cond s (Count n) Top) (cond t (Count m) Top))
    go true true e f = grind (arith, nat_tests)
    go true false e f = refl
    go false true e f = absurd (grind (arith, nat_tests))
    go false false e f = refl

pub leq_top : (x : Num) → IsTrue (number_leq x Top)
leq_top (Count a) = refl
leq_top Top = refl

zero_or_top_number : (t : Bool) → IsTrue (is_number (cond t (Count 0) Top))
zero_or_top_number true = refl
zero_or_top_number false = refl

-- What Top times c is, is at least what a count times a is, and what Top times a is.
count_below_top : (a b c : ℕ) → a ≤ c → IsTrue (number_leq (count_or_top (a * b)) (number_product (Count c) Top))
count_below_top a b c l = go (nat_eq c 0) refl
  where
    go : (t : Bool) → nat_eq c 0 ≡ t → IsTrue (number_leq (count_or_top (a * b)) (cond t (Count 0) Top))
    go true e =
        let none : a ≡ 0 = let z = eqb-true c 0 e in omega arith in
        let nothing : a * b ≡ 0 = rw none (zero-mul b) in
        rw nothing refl
    go false e = leq_top (count_or_top (a * b))

top_below_top : (a c : ℕ) → a ≤ c → IsTrue (number_leq (number_product (Count a) Top) (number_product (Count c) Top))
top_below_top a c l = go (nat_eq a 0) (nat_eq c 0) refl refl
  where
    go : (s t : Bool) → nat_eq a 0 ≡ s → nat_eq c 0 ≡ t → IsTrue (number_leq (cond s (Count 0) Top) (cond t (Count 0) Top))
    go true true e f = refl
    go true false e f = refl
    go false false e f = refl
    go false true e f = absurd (grind (arith, nat_tests))

pub sum_number : (x y : Num) → IsTrue (is_number (number_sum x y))
sum_number (Count a) (Count b) = count_or_top_number (a + b)
sum_number (Count a) Top = refl
sum_number Top y = refl

pub sum_monotone : (x y z w : Num) → IsTrue (number_leq x z) → IsTrue (number_leq y w) → IsTrue (number_leq (number_sum x y) (number_sum z w))
sum_monotone (Count a) (Count b) (Count c) (Count d) h k = count_or_top_monotone (a + b) (c + d) (grind (arith, nat_tests, h, k))
sum_monotone x y Top w h k = leq_top (number_sum x y)
sum_monotone x y (Count c) Top h k = leq_top (number_sum x y)
sum_monotone Top y (Count c) (Count d) h k = absurd (cc)
sum_monotone (Count a) Top (Count c) (Count d) h k = absurd (cc)

pub sum_comm : (x y : Num) → number_sum x y ≡ number_sum y x
sum_comm (Count a) (Count b) = ap count_or_top (omega arith)
sum_comm (Count a) Top = refl
sum_comm Top (Count b) = refl
sum_comm Top Top = refl

pub sum_zero : (x : Num) → IsTrue (is_number x) → number_sum (Count 0) x ≡ x
sum_zero (Count a) h = ap count_or_top (omega arith) ∙ cond-true _ (Count a) Top h
sum_zero Top h = refl

pub product_number : (x y : Num) → IsTrue (is_number (number_product x y))
product_number (Count a) (Count b) = count_or_top_number (a * b)
product_number (Count a) Top = zero_or_top_number (nat_eq a 0)
product_number Top (Count b) = zero_or_top_number (nat_eq b 0)
product_number Top Top = refl

pub product_monotone : (x y z w : Num) → IsTrue (number_leq x z) → IsTrue (number_leq y w) → IsTrue (number_leq (number_product x y) (number_product z w))
product_monotone x y Top Top h k = leq_top (number_product x y)
product_monotone (Count a) (Count b) (Count c) (Count d) h k = count_or_top_monotone (a * b) (c * d) (mul-le-mul (leb-true a c h) (leb-true b d k))
product_monotone (Count a) (Count b) (Count c) Top h k = count_below_top a b c (leb-true a c h)
product_monotone (Count a) Top (Count c) Top h k = top_below_top a c (leb-true a c h)
product_monotone (Count a) (Count b) Top (Count d) h k = subst (λ n. IsTrue (number_leq (count_or_top n) (number_product Top (Count d)))) (mul_comm b a) (count_below_top b a d (leb-true b d k))
product_monotone Top (Count b) Top (Count d) h k = top_below_top b d (leb-true b d k)
product_monotone Top y (Count c) w h k = absurd (cc)
product_monotone x Top z (Count d) h k = absurd (cc)

pub product_comm : (x y : Num) → number_product x y ≡ number_product y x
product_comm (Count a) (Count b) = ap count_or_top (mul_comm a b)
product_comm (Count a) Top = refl
product_comm Top (Count b) = refl
product_comm Top Top = refl

pub product_one : (x : Num) → IsTrue (is_number x) → number_product (Count 1) x ≡ x
product_one (Count a) h = ap count_or_top (omega arith) ∙ cond-true _ (Count a) Top h
product_one Top h = refl

pub greater_number : (x y : Num) → IsTrue (is_number x) → IsTrue (is_number y) → IsTrue (is_number (greater_of x y))
greater_number (Count a) (Count b) h k = grind (arith, nat_tests, h, k)
greater_number (Count a) Top h k = refl
greater_number Top y h k = refl

pub greater_monotone : (x y z w : Num) → IsTrue (number_leq x z) → IsTrue (number_leq y w) → IsTrue (number_leq (greater_of x y) (greater_of z w))
greater_monotone (Count a) (Count b) (Count c) (Count d) h k = grind (arith, nat_tests, h, k)
greater_monotone x y Top w h k = leq_top (greater_of x y)
greater_monotone x y (Count c) Top h k = leq_top (greater_of x y)
greater_monotone Top y (Count c) (Count d) h k = absurd (cc)
greater_monotone (Count a) Top (Count c) (Count d) h k = absurd (cc)

pub lesser_number : (x y : Num) → IsTrue (is_number x) → IsTrue (is_number y) → IsTrue (is_number (lesser_of x y))
lesser_number (Count a) (Count b) h k = grind (arith, nat_tests, h, k)
lesser_number (Count a) Top h k = h
lesser_number Top y h k = k

pub lesser_monotone : (x y z w : Num) → IsTrue (number_leq x z) → IsTrue (number_leq y w) → IsTrue (number_leq (lesser_of x y) (lesser_of z w))
lesser_monotone (Count a) (Count b) (Count c) (Count d) h k = grind (arith, nat_tests, h, k)
lesser_monotone (Count a) (Count b) (Count c) Top h k = grind (arith, nat_tests, h, k)
lesser_monotone (Count a) Top (Count c) Top h k = h
lesser_monotone (Count a) (Count b) Top (Count d) h k = grind (arith, nat_tests, h, k)
lesser_monotone Top (Count b) Top (Count d) h k = k
lesser_monotone x y Top Top h k = leq_top (lesser_of x y)
lesser_monotone Top y (Count c) w h k = absurd (cc)
lesser_monotone x Top z (Count d) h k = absurd (cc)
