-- Partners in turn: one item for each part.
use Rattle.std.proofs.Common.{◌≡◌, ◌≢◌, ◌<◌, ◌≤◌, ◌+◌, ℕ, suc, refl, ap, Bool, false, IsTrue, List, [], ◌∷◌, ◌++◌, length, drop, map, get_or, append_assoc}
use Rattle.std.proofs.lemmas.List.{drop_more, drop_all}
use Rattle.order_core.specs.MemberLaws.{first, second, append_nil}
use Rattle.order_core.specs.Order.{IsLeast, AreBounds}
use Rattle.order_core.specs.Tuple.{are_values, tuple_leq, AreAllLeast, AreAllBounds}
use Rattle.std.proofs.Math.Bool.{and-false}

pub are_values_unequal : {P A : Type 0} (f : P → A → Bool) (ps : List P) (xs : List A) → length ps ≢ length xs → are_values (map f ps) xs ≡ false
are_values_unequal f [] [] h = absurd (h refl)
are_values_unequal f [] (x ∷ xs) h = refl
are_values_unequal f (p ∷ ps) [] h = refl
are_values_unequal f (p ∷ ps) (x ∷ xs) h = rw (are_values_unequal f ps xs (λ e. h (ap suc e))) (and-false (f p x))

-- Lists of other lengths are in no order.
pub unequal_lower : {P A : Type 0} (f : P → A → A → Bool) (ps : List P) (xs ys : List A) → length ps ≢ length xs → tuple_leq (map f ps) xs ys ≡ false
unequal_lower f [] [] ys h = absurd (h refl)
unequal_lower f [] (x ∷ xs) ys h = refl
unequal_lower f (p ∷ ps) [] ys h = refl
unequal_lower f (p ∷ ps) (x ∷ xs) [] h = refl
unequal_lower f (p ∷ ps) (x ∷ xs) (y ∷ ys) h = rw (unequal_lower f ps xs ys (λ e. h (ap suc e))) (and-false (f p x y))

pub unequal_upper : {P A : Type 0} (f : P → A → A → Bool) (ps : List P) (xs ys : List A) → length ps ≢ length ys → tuple_leq (map f ps) xs ys ≡ false
unequal_upper f [] [] [] h = absurd (h refl)
unequal_upper f [] [] (y ∷ ys) h = refl
unequal_upper f [] (x ∷ xs) ys h = refl
unequal_upper f (p ∷ ps) [] ys h = refl
unequal_upper f (p ∷ ps) (x ∷ xs) [] h = refl
unequal_upper f (p ∷ ps) (x ∷ xs) (y ∷ ys) h = rw (unequal_upper f ps xs ys (λ e. h (ap suc e))) (and-false (f p x y))

pub are_values_length : {P A : Type 0} (f : P → A → Bool) (ps : List P) (xs : List A) → IsTrue (are_values (map f ps) xs) → length ps ≡ length xs
are_values_length f [] [] h = refl
are_values_length f [] (x ∷ xs) h = absurd (cc)
are_values_length f (p ∷ ps) [] h = absurd (cc)
are_values_length f (p ∷ ps) (x ∷ xs) h = ap suc (are_values_length f ps xs (second (f p x) _ h))

-- What is left passes: its front, and the rest.
module _ {P A : Type 0} (f : P → A → Bool) (ps : List P) (xs : List A) (i : ℕ) (p : P) (x : A)
    (left : IsTrue (are_values (map f (drop i ps)) (drop i xs))) (inside : i < length ps) (within : i < length xs) (p-is : p ≡ get_or ps i p) (x-is : x ≡ get_or xs i x) where
  parts : IsTrue (are_values (map f (p ∷ drop (i + 1) ps)) (x ∷ drop (i + 1) xs))
  parts = rw (drop_more ps i p inside, drop_more xs i x within, ← p-is, ← x-is) at left

  pub are_values_front : IsTrue (f p x)
  are_values_front = first (f p x) _ parts

  pub are_values_rest : IsTrue (are_values (map f (drop (i + 1) ps)) (drop (i + 1) xs))
  are_values_rest = second (f p x) _ parts

-- When no part is left, there is a list for each part.
pub least_done : {P A : Type 0} (is_value : P → A → Bool) (leq : P → A → A → Bool) (ps : List P) (made : List (List A)) (i : ℕ)
    → ((rest : List (List A)) → AreAllLeast is_value leq (drop i ps) rest → AreAllLeast is_value leq ps (made ++ rest)) → length ps ≤ i → AreAllLeast is_value leq ps made
least_done is_value leq ps made i left end =
    let at : AreAllLeast is_value leq (drop i ps) [] = rw (drop_all i ps end) tt in rw (append_nil made) at (left [] at)

pub bounds_done : {P A : Type 0} (is_value : P → A → Bool) (leq : P → A → A → Bool) (ps : List P) (xs ys : List A) (made : List (List A)) (i : ℕ)
    → ((rest : List (List A)) → AreAllBounds is_value leq (drop i ps) (drop i xs) (drop i ys) rest → AreAllBounds is_value leq ps xs ys (made ++ rest))
    → length ps ≤ i → length xs ≤ i → length ys ≤ i → AreAllBounds is_value leq ps xs ys made
bounds_done is_value leq ps xs ys made i left ps_end xs_end ys_end =
    let at : AreAllBounds is_value leq (drop i ps) (drop i xs) (drop i ys) [] = rw (drop_all i ps ps_end, drop_all i xs xs_end, drop_all i ys ys_end) tt in
    rw (append_nil made) at (left [] at)

-- A further list is put for the next part.
pub least_more : {P A : Type 0} (is_value : P → A → Bool) (leq : P → A → A → Bool) (ps : List P) (made : List (List A)) (i : ℕ) (p : P) (choice : List A)
    → ((rest : List (List A)) → AreAllLeast is_value leq (drop i ps) rest → AreAllLeast is_value leq ps (made ++ rest))
    → i < length ps → p ≡ get_or ps i p → IsLeast (is_value p) (leq p) choice
    → (rest : List (List A)) → AreAllLeast is_value leq (drop (i + 1) ps) rest → AreAllLeast is_value leq ps ((made ++ choice ∷ []) ++ rest)
least_more is_value leq ps made i p choice left inside p-is here rest h =
    let at : AreAllLeast is_value leq (drop i ps) (choice ∷ rest) = rw (drop_more ps i p inside, ← p-is) (here, h) in
    rw append_assoc (left (choice ∷ rest) at)

pub bounds_more : {P A : Type 0} (is_value : P → A → Bool) (leq : P → A → A → Bool) (ps : List P) (xs ys : List A) (made : List (List A)) (i : ℕ) (p : P) (x y : A) (choice : List A)
    → ((rest : List (List A)) → AreAllBounds is_value leq (drop i ps) (drop i xs) (drop i ys) rest → AreAllBounds is_value leq ps xs ys (made ++ rest))
    → i < length ps → i < length xs → i < length ys → p ≡ get_or ps i p → x ≡ get_or xs i x → y ≡ get_or ys i y → AreBounds (is_value p) (leq p) x y choice
    → (rest : List (List A)) → AreAllBounds is_value leq (drop (i + 1) ps) (drop (i + 1) xs) (drop (i + 1) ys) rest → AreAllBounds is_value leq ps xs ys ((made ++ choice ∷ []) ++ rest)
bounds_more is_value leq ps xs ys made i p x y choice left p_in x_in y_in p-is x-is y-is here rest h =
    let at : AreAllBounds is_value leq (drop i ps) (drop i xs) (drop i ys) (choice ∷ rest) =
    rw (drop_more ps i p p_in, drop_more xs i x x_in, drop_more ys i y y_in, ← p-is, ← x-is, ← y-is) (here, h) in
    rw append_assoc (left (choice ∷ rest) at)
