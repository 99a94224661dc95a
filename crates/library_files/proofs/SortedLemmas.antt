-- Texts in the order of their bytes: a list has one permutation in that order.
use Rattle.std.proofs.Common.{◌≡◌, ◌<◌, ◌+◌, refl, arith, add-one, ℕ, zero, suc, Bool, true, false, cond, List, [], ◌∷◌, length, get_or}
use Rattle.std.proofs.lemmas.Cmp.{nat_list_cmp_total}
use Rattle.std.proofs.lemmas.List.Elements.{All-from_get_or, All-get_or}
use Rattle.std.proofs.lemmas.List.Sorted.{IsPermutation-cons, IsPermutation-middle, IsPermutation-refl, IsPermutation-sym, IsPermutation-trans, sorted_far}
use Rattle.std.specs.Cmp.{IsStrictWeakOrder}
use Rattle.std.specs.Cmp.Lexicographic.{slice_cmp}
use Rattle.std.specs.List.Sorted.{IsPermutation, IsSortedBy}
use Rattle.std.specs.Ordering.{nat_cmp}
use Rattle.library_files.specs.Taken.{is_before}
use Rattle.order_core.specs.Pointwise.{Each}
use Rattle.order_core.specs.PointwiseLaws.{all_each, each_all, each_weaker}
use Rattle.order_core.specs.TotalOrderLaws.{weak}

pub order : IsStrictWeakOrder is_before
order = weak (slice_cmp nat_cmp) nat_list_cmp_total

-- No text comes before one that stands in front of it.
abbrev pub Rises : List (List ℕ) → Type 0
Rises [] = Unit {0}
Rises (x ∷ xs) = Each (λ y. is_before y x ≡ false) xs × Rises xs

rises_at : (x : List ℕ) (xs : List (List ℕ)) → Each (λ y. is_before y x ≡ false) xs → (d : List ℕ) → 0 < length xs → is_before (get_or xs 0 d) x ≡ false
rises_at x xs h d l = All-get_or (λ y. is_before y x ≡ false) xs 0 d l (each_all (λ y. is_before y x ≡ false) xs h)

pub rises_sorted : (xs : List (List ℕ)) → Rises xs → IsSortedBy is_before xs
rises_sorted [] h = λ k d low l. absurd (omega (arith, l))
rises_sorted (x ∷ xs) h = λ k d low l. go (rises_sorted xs h.1) k d l
  where
    go : IsSortedBy is_before xs → (k : ℕ) (d : List ℕ) → k + 1 < length (x ∷ xs) → is_before (get_or (x ∷ xs) (k + 1) d) (get_or (x ∷ xs) k d) ≡ false
    go later zero d l = rises_at x xs h.0 d (omega (arith, l))
    go later (suc k) d l = rw add-one (rw add-one at (later k d (omega arith) (omega (arith, l))))

pub sorted_rises : (xs : List (List ℕ)) → IsSortedBy is_before xs → Rises xs
sorted_rises [] up = tt
sorted_rises (x ∷ xs) up = (
  all_each (λ y. is_before y x ≡ false) xs (All-from_get_or (λ y. is_before y x ≡ false) xs x (λ i l. sorted_far is_before order (x ∷ xs) up 0 (suc i) x (omega arith) (omega (arith, l)))),
  sorted_rises xs (λ k d low l. rw add-one (rw add-one at (up (suc k) d (omega arith) (omega (arith, l))))),
)

-- put behind those that come before it
abbrev pub put : List ℕ → List (List ℕ) → List (List ℕ)
put x [] = x ∷ []
put x (y ∷ ys) = cond (is_before y x) (y ∷ put x ys) (x ∷ y ∷ ys)

abbrev pub sorted : List (List ℕ) → List (List ℕ)
sorted [] = []
sorted (x ∷ xs) = put x (sorted xs)

put_permutes : (x : List ℕ) (ys : List (List ℕ)) → IsPermutation (x ∷ ys) (put x ys)
put_permutes x [] = IsPermutation-refl (x ∷ [])
put_permutes x (y ∷ ys) = go (is_before y x) (put_permutes x ys)
  where
    go : (b : Bool) → IsPermutation (x ∷ ys) (put x ys) → IsPermutation (x ∷ y ∷ ys) (cond b (y ∷ put x ys) (x ∷ y ∷ ys))
    go true later = IsPermutation-trans (x ∷ y ∷ ys) (y ∷ x ∷ ys) (y ∷ put x ys) (IsPermutation-sym (y ∷ x ∷ ys) (x ∷ y ∷ ys) (IsPermutation-middle (y ∷ []) x ys)) (IsPermutation-cons y (x ∷ ys) (put x ys) later)
    go false later = IsPermutation-refl (x ∷ y ∷ ys)

pub sorted_permutes : (xs : List (List ℕ)) → IsPermutation xs (sorted xs)
sorted_permutes [] = IsPermutation-refl []
sorted_permutes (x ∷ xs) = IsPermutation-trans (x ∷ xs) (x ∷ sorted xs) (put x (sorted xs)) (IsPermutation-cons x xs (sorted xs) (sorted_permutes xs)) (put_permutes x (sorted xs))

each_put : (P : List ℕ → Type 0) (x : List ℕ) (ys : List (List ℕ)) → P x → Each P ys → Each P (put x ys)
each_put P x [] p h = (p, tt)
each_put P x (y ∷ ys) p h = go (is_before y x) (each_put P x ys p h.1)
  where
    go : (b : Bool) → Each P (put x ys) → Each P (cond b (y ∷ put x ys) (x ∷ y ∷ ys))
    go true later = (h.0, later)
    go false later = (p, h)

rises_put : (x : List ℕ) (ys : List (List ℕ)) → Rises ys → Rises (put x ys)
rises_put x [] h = (tt, tt)
rises_put x (y ∷ ys) h = go (is_before y x) refl (rises_put x ys h.1)
  where
    go : (b : Bool) → is_before y x ≡ b → Rises (put x ys) → Rises (cond b (y ∷ put x ys) (x ∷ y ∷ ys))
    go true e later = (each_put (λ z. is_before z y ≡ false) x ys (order.one_way y x e) h.0, later)
    go false e later = ((e, each_weaker (λ z. is_before z y ≡ false) (λ z. is_before z x ≡ false) ys (λ z m k. order.chain z y x k e) h.0), h)

pub sorted_in_order : (xs : List (List ℕ)) → Rises (sorted xs)
sorted_in_order [] = tt
sorted_in_order (x ∷ xs) = rises_put x (sorted xs) (sorted_in_order xs)
