-- Words as sets: what has the numbers of joined and met words, and which numbers are listed.
use Rattle.std.proofs.Common.{◌≡◌, ◌≢◌, ◌<◌, ◌≤◌, w64, ◌-◌, ◌*◌, ◌/◌, ◌%◌, ◌^◌, ℕ, zero, suc, false, ◌&&◌, ◌||◌, not, IsTrue, List, [], ◌∷◌, refl, sym, subst, arith, ◌⊎◌, inl, inr, ◌∙◌}
use Rattle.std.proofs.Math.Nat.{div-eq_of_lt, mod-eq_of_lt}
use Rattle.std.proofs.Math.Pow.{pow_mono, pow-lt}
use Rattle.std.proofs.lemmas.Bool.Decides.{nat_tests}
use Rattle.std.proofs.lemmas.Bool.{cases_eq, eq-eqb, ne_eqb}
use Rattle.std.proofs.lemmas.Nat.Bits.{bit_at-lt, bit_at-zero, bit_at_or, bit_at_and, bit_at-pow_same, bit_at-pow_other, bit_at_ones, bit_at_not, bit_at_clear_same, bit_at_clear_other}
use Rattle.std.specs.Int.Bits.{bit_and, bit_or}
use Rattle.std.specs.Int.{bit_not}
use Rattle.std.specs.Prelude.{nat_eq, None, slice_get, slice_index}
use Rattle.order_core.specs.Word.{is_in_word}
use mir.Val.{bits}

pub has_none : (x : ℕ) → is_in_word 0 x ≡ false
has_none x = rw bit_at-zero refl

pub no_word : (words : List ℕ) (i x : ℕ) → None ≡ slice_get words i → is_in_word (slice_index words i) x ≡ false
no_word [] i x e = has_none x
no_word (w ∷ words) zero x e = absurd (cc)
no_word (w ∷ words) (suc i) x e = no_word words i x e

-- A word of n bits has no number from n on.
pub has_beyond : (n word x : ℕ) → word < 2 ^ n → n ≤ x → is_in_word word x ≡ false
has_beyond n word x w l =
    let powers : 2 ^ n ≤ 2 ^ x = pow_mono l in
    let small : word < 2 ^ x = omega arith in
    let none : word / 2 ^ x ≡ 0 = div-eq_of_lt small in
    rw none refl

pub has_or : (a b x : ℕ) → is_in_word (bit_or a b) x ≡ is_in_word a x || is_in_word b x
has_or a b x =
    let at = bit_at_or a b x in
    let a_bit = bit_at-lt a x in
    let b_bit = bit_at-lt b x in
    grind (arith, nat_tests, at, a_bit, b_bit)

pub has_and : (a b x : ℕ) → is_in_word (bit_and a b) x ≡ is_in_word a x && is_in_word b x
has_and a b x =
    let at = bit_at_and a b x in
    let a_bit = bit_at-lt a x in
    let b_bit = bit_at-lt b x in
    grind (arith, nat_tests, at, a_bit, b_bit)

pub has_one : (k : ℕ) → IsTrue (is_in_word (2 ^ k) k)
has_one k = rw bit_at-pow_same refl

pub has_other : (k x : ℕ) → x ≢ k → is_in_word (2 ^ k) x ≡ false
has_other k x h = rw (bit_at-pow_other k x h) refl

-- The word of one number alone, as a shift makes it.
pub has_shifted : (k x : ℕ) → k < 64 → is_in_word (1 * 2 ^ k % 2 ^ bits w64) x ≡ nat_eq x k
has_shifted k x l = subst (λ (w : ℕ). is_in_word w x ≡ nat_eq x k) (sym small) (go (cases_eq x k))
  where
    less : 2 ^ k < 2 ^ 64
    less = pow-lt l

    small : 1 * 2 ^ k % 2 ^ bits w64 ≡ 2 ^ k
    small = let one : 1 * 2 ^ k ≡ 2 ^ k = omega arith in rw one (mod-eq_of_lt less)

    go : (x ≡ k) ⊎ (x ≡ k → ⊥) → is_in_word (2 ^ k) x ≡ nat_eq x k
    go (inl e) = subst (λ (z : ℕ). is_in_word (2 ^ k) z ≡ nat_eq z k) (sym e) (has_one k ∙ sym (eq-eqb k k refl))
    go (inr n) = has_other k x n ∙ sym (ne_eqb x k n)

pub has_all : (x : ℕ) → x < 64 → IsTrue (is_in_word (2 ^ 64 - 1) x)
has_all x l = rw (bit_at_ones 64 x l) refl

pub has_not : (word x : ℕ) → word < 2 ^ 64 → x < 64 → is_in_word (bit_not w64 word) x ≡ not (is_in_word word x)
has_not word x h l =
    let at = bit_at_not w64 word x h l in
    let bit = bit_at-lt word x in
    grind (arith, nat_tests, at, bit)

pub has_cleared : (word k : ℕ) → k < 64 → is_in_word (bit_and word (bit_not w64 (1 * 2 ^ k % 2 ^ bits w64))) k ≡ false
has_cleared word k l = rw (bit_at_clear_same w64 word k l) refl

pub has_kept : (word k x : ℕ) → k < 64 → x < 64 → x ≢ k → is_in_word (bit_and word (bit_not w64 (1 * 2 ^ k % 2 ^ bits w64))) x ≡ is_in_word word x
has_kept word k x l m h = rw (bit_at_clear_other w64 word k l x m h) refl
