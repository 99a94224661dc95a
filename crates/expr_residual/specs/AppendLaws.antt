-- Items of lists that are put one after the other.
use Rattle.std.proofs.Common.{refl, ap, ◌∙◌, arith}
use Rattle.std.specs.Prelude.{◌≡◌, ◌+◌, ◌++◌, ℕ, zero, suc, List, [], ◌∷◌, length, Option, Some, slice_get}

pub got_left : {A : Type 0} (xs ys : List A) (i : ℕ) (x : A) → slice_get xs i ≡ Some x → slice_get (xs ++ ys) i ≡ Some x
got_left [] ys i x e = absurd (cc)
got_left (y ∷ xs) ys zero x e = e
got_left (y ∷ xs) ys (suc i) x e = got_left xs ys i x e

pub got_right : {A : Type 0} (xs ys : List A) (i : ℕ) → slice_get (xs ++ ys) (length xs + i) ≡ slice_get ys i
got_right [] ys i = let same : 0 + i ≡ i = omega arith in ap (slice_get ys) same
got_right (x ∷ xs) ys i =
    let same : length (x ∷ xs) + i ≡ suc (length xs + i) = omega arith in
    ap (slice_get (x ∷ (xs ++ ys))) same ∙ got_right xs ys i

pub got_next : {A : Type 0} (xs ys : List A) (x : A) → slice_get (xs ++ x ∷ ys) (length xs) ≡ Some x
got_next [] ys x = refl
got_next (y ∷ xs) ys x = got_next xs ys x

pub many_more : {A : Type 0} (front : List A) (x : A) → length (front ++ x ∷ []) ≡ length front + 1
many_more [] x = omega arith
many_more (y ∷ front) x = let on : suc (length front + 1) ≡ length (y ∷ front) + 1 = omega arith in ap suc (many_more front x) ∙ on

pub one_by_one : {A : Type 0} (front : List A) (x : A) (xs : List A) → (front ++ x ∷ []) ++ xs ≡ front ++ x ∷ xs
one_by_one [] x xs = refl
one_by_one (y ∷ front) x xs = ap (λ r. y ∷ r) (one_by_one front x xs)
