-- Which numbers a set has after an insertion and a union.
use Rattle.std.proofs.Common.{◌≡◌, ◌∙◌, ◌<◌, ◌+◌, ◌*◌, ◌/◌, ◌%◌, ◌^◌, w64, arith, refl, sym, ap, subst, ℕ, zero, suc, Bool, false, ◌||◌, List, [], ◌∷◌, ◌++◌, ◌⊎◌, inl, inr, length, get_or, set, take, drop, replicate, nat_eq, bit_or, length-append, get_or-set_same, get_or-set_other}
use Rattle.std.proofs.lemmas.Bool.{cases_eq, eq-eqb, ne_eqb}
use Rattle.std.proofs.lemmas.List.{get_or_read, take-append-drop}
use mir.Val.{bits}
use Rattle.order_core.specs.Word.{is_in_word}
use Rattle.order_core.specs.WordLaws.{has_none, has_or, has_shifted}
use Rattle.reachability.specs.BitSets.{has_in, united}
use Rattle.std.proofs.Math.Bool.{or-false}

-- A set of empty words has no number, nor has one without words.
pub zero_at : (n i : ℕ) → get_or {A = ℕ} (replicate n 0) i 0 ≡ 0
zero_at zero i = refl
zero_at (suc n) zero = refl
zero_at (suc n) (suc i) = zero_at n i

pub has_in-none : (n x : ℕ) → has_in (replicate n 0) x ≡ false
has_in-none n x = ap (λ (w : ℕ). is_in_word w (x % 64)) (zero_at n (x / 64)) ∙ has_none (x % 64)

pub length-united : (xs ys : List ℕ) → length (united xs ys) ≡ length xs
length-united [] ys = refl
length-united (x ∷ xs) [] = refl
length-united (x ∷ xs) (y ∷ ys) = ap (λ (n : ℕ). suc n) (length-united xs ys)

united_at : (xs ys : List ℕ) (i : ℕ) → length ys ≡ length xs → get_or (united xs ys) i 0 ≡ bit_or (get_or xs i 0) (get_or ys i 0)
united_at [] [] i e = refl
united_at [] (y ∷ ys) i e = absurd (omega arith)
united_at (x ∷ xs) [] i e = absurd (omega arith)
united_at (x ∷ xs) (y ∷ ys) zero e = refl
united_at (x ∷ xs) (y ∷ ys) (suc i) e = united_at xs ys i (omega arith)

pub has_in-united : (xs ys : List ℕ) (x : ℕ) → length ys ≡ length xs → has_in (united xs ys) x ≡ has_in xs x || has_in ys x
has_in-united xs ys x e = ap (λ (w : ℕ). is_in_word w (x % 64)) (united_at xs ys (x / 64) e) ∙ has_or (get_or xs (x / 64) 0) (get_or ys (x / 64) 0) (x % 64)

-- One word more of a union in place.
abbrev pub united_to : List ℕ → List ℕ → ℕ → List ℕ
united_to xs ys i = united (take i xs) (take i ys) ++ drop i xs

pub length-united_to : (xs ys : List ℕ) (i : ℕ) → length (united_to xs ys i) ≡ length xs
length-united_to xs ys i =
    length-append (united (take i xs) (take i ys)) (drop i xs)
    ∙ ap (λ (n : ℕ). n + length (drop i xs)) (length-united (take i xs) (take i ys))
    ∙ sym (length-append (take i xs) (drop i xs))
    ∙ ap length (take-append-drop i xs)

pub united_to-at : (xs ys : List ℕ) (i : ℕ) → i < length xs → i < length ys → get_or (united_to xs ys i) i 0 ≡ get_or xs i 0
united_to-at [] ys i l k = absurd (omega arith)
united_to-at (x ∷ xs) [] i l k = absurd (omega arith)
united_to-at (x ∷ xs) (y ∷ ys) zero l k = refl
united_to-at (x ∷ xs) (y ∷ ys) (suc i) l k = united_to-at xs ys i (omega arith) (omega arith)

united_to-suc : (xs ys : List ℕ) (i : ℕ) → i < length xs → i < length ys → set (united_to xs ys i) i (bit_or (get_or xs i 0) (get_or ys i 0)) ≡ united_to xs ys (suc i)
united_to-suc [] ys i l k = absurd (omega arith)
united_to-suc (x ∷ xs) [] i l k = absurd (omega arith)
united_to-suc (x ∷ xs) (y ∷ ys) zero l k = refl
united_to-suc (x ∷ xs) (y ∷ ys) (suc i) l k = ap (λ (zs : List ℕ). bit_or x y ∷ zs) (united_to-suc xs ys i (omega arith) (omega arith))

pub united_to-more : (xs ys : List ℕ) (i : ℕ) → i < length xs → i < length ys → set (united_to xs ys i) i (bit_or (get_or xs i 0) (get_or ys i 0)) ≡ united_to xs ys (i + 1)
united_to-more xs ys i l k = let next : suc i ≡ i + 1 = omega arith in united_to-suc xs ys i l k ∙ ap (united_to xs ys) next

-- The same as the code makes it, of the words that it reads.
pub united_word : (xs ys words others : List ℕ) (i word : ℕ) → length ys ≡ length xs → words ≡ united_to xs ys i → others ≡ ys → i < length others → word ≡ get_or words i word
    → set words i (bit_or word (get_or others i 0)) ≡ united_to xs ys (i + 1)
united_word xs ys words others i word size so_far same l is =
    let there : i < length ys = omega (arith, ap length same) in
    let here : i < length xs = omega arith in
    let within : i < length words = omega (arith, ap length so_far, length-united_to xs ys i) in
    let old : word ≡ get_or xs i 0 = get_or_read words i word within is 0 ∙ ap (λ (zs : List ℕ). get_or zs i 0) so_far ∙ united_to-at xs ys i here there in
    let more = united_to-more xs ys i here there in
    cc (so_far, old, same, more)

pub united_to-all : (xs ys : List ℕ) → length ys ≡ length xs → united_to xs ys (length ys) ≡ united xs ys
united_to-all [] [] e = refl
united_to-all [] (y ∷ ys) e = absurd (omega arith)
united_to-all (x ∷ xs) [] e = absurd (omega arith)
united_to-all (x ∷ xs) (y ∷ ys) e = ap (λ (zs : List ℕ). bit_or x y ∷ zs) (united_to-all xs ys (omega arith))

-- The set with the number, as the code makes it.
module _ (words : List ℕ) (number : ℕ) (within : number / 64 < length words) where
  abbrev pub inserted : List ℕ
  inserted = set words (number / 64) (bit_or (get_or words (number / 64) 0) (1 * 2 ^ (number % 64) % 2 ^ bits w64))

  few : number % 64 < 64
  few = omega arith

  pub has_in-inserted : (x : ℕ) → has_in inserted x ≡ has_in words x || nat_eq x number
  has_in-inserted x = go (cases_eq (x / 64) (number / 64))
    where
      bit : x / 64 ≡ number / 64 → nat_eq (x % 64) (number % 64) ≡ nat_eq x number
      bit e = at (cases_eq x number)
        where
          at : (x ≡ number) ⊎ (x ≡ number → ⊥) → nat_eq (x % 64) (number % 64) ≡ nat_eq x number
          at (inl f) = eq-eqb (x % 64) (number % 64) (ap (λ (z : ℕ). z % 64) f) ∙ sym (eq-eqb x number f)
          at (inr f) = ne_eqb (x % 64) (number % 64) (λ g. f (omega arith)) ∙ sym (ne_eqb x number f)

      go : (x / 64 ≡ number / 64) ⊎ (x / 64 ≡ number / 64 → ⊥) → has_in inserted x ≡ has_in words x || nat_eq x number
      go (inl e) =
          let word : get_or inserted (x / 64) 0 ≡ bit_or (get_or words (x / 64) 0) (1 * 2 ^ (number % 64) % 2 ^ bits w64) =
          subst (λ (i : ℕ). get_or inserted i 0 ≡ bit_or (get_or words i 0) (1 * 2 ^ (number % 64) % 2 ^ bits w64)) (sym e) (get_or-set_same words (number / 64) _ 0 within) in
          ap (λ (w : ℕ). is_in_word w (x % 64)) word
          ∙ has_or (get_or words (x / 64) 0) (1 * 2 ^ (number % 64) % 2 ^ bits w64) (x % 64)
          ∙ ap (λ (t : Bool). has_in words x || t) (has_shifted (number % 64) (x % 64) few ∙ bit e)
      go (inr e) =
          let word : get_or inserted (x / 64) 0 ≡ get_or words (x / 64) 0 = get_or-set_other words (number / 64) (x / 64) _ 0 e in
          let other : nat_eq x number ≡ false = ne_eqb x number (λ f. e (ap (λ (z : ℕ). z / 64) f)) in
          ap (λ (w : ℕ). is_in_word w (x % 64)) word ∙ sym (or-false (has_in words x)) ∙ ap (λ (t : Bool). has_in words x || t) (sym other)
