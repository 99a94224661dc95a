-- What holds of each item of a list, or of each pair of partners in two lists of the same length.
use Rattle.std.proofs.Common.{refl, ap, sym, subst, inl, inr, ◌++◌, arith}
use Rattle.std.specs.Prelude.{◌≡◌, ℕ, zero, suc, List, [], ◌∷◌, map, length, slice_get, IsSomeAnd, Some}
use Rattle.std.specs.List.{All}
use Rattle.order_core.specs.Members.{IsMember}
use Rattle.order_core.specs.Pointwise.{Each, Pointwise}

pub each_got : {A : Type 0} (P : A → Type 0) (xs : List A) (x : A) → Each P xs → IsMember x xs → P x
each_got P [] x h m = absurd m
each_got P (y ∷ ys) x h (inl e) = subst P (sym e) h.0
each_got P (y ∷ ys) x h (inr m) = each_got P ys x h.1 m

pub each_weaker : {A : Type 0} (P Q : A → Type 0) (xs : List A) → ((x : A) → IsMember x xs → P x → Q x) → Each P xs → Each Q xs
each_weaker P Q [] f h = tt
each_weaker P Q (x ∷ xs) f h = (f x (inl refl) h.0, each_weaker P Q xs (λ y m. f y (inr m)) h.1)

pub each_made : {A : Type 0} (P : A → Type 0) (xs : List A) → ((x : A) → IsMember x xs → P x) → Each P xs
each_made P [] f = tt
each_made P (x ∷ xs) f = (f x (inl refl), each_made P xs (λ y m. f y (inr m)))

-- To relate through a map is to relate what it gives.
pub Pointwise-map : {A B C : Type 0} (f : A → B) (R : B → C → Type 0) (xs : List A) (ys : List C) → Pointwise (λ x. R (f x)) xs ys ≡ Pointwise R (map f xs) ys
Pointwise-map f R [] [] = refl
Pointwise-map f R [] (y ∷ ys) = refl
Pointwise-map f R (x ∷ xs) [] = refl
Pointwise-map f R (x ∷ xs) (y ∷ ys) = ap (λ (P : Type 0). R (f x) y × P) (Pointwise-map f R xs ys)

pub Each-map : {A B : Type 0} (f : A → B) (P : B → Type 0) (xs : List A) → Each (λ x. P (f x)) xs ≡ Each P (map f xs)
Each-map f P [] = refl
Each-map f P (x ∷ xs) = ap (λ (Q : Type 0). P (f x) × Q) (Each-map f P xs)

-- What holds of the item at a place, through a map.
pub at-map : {A B : Type 0} (f : A → B) (P : B → Type 0) (xs : List A) (i : ℕ) → IsSomeAnd (slice_get xs i) (λ x. P (f x)) ≡ IsSomeAnd (slice_get (map f xs) i) P
at-map f P [] i = refl
at-map f P (x ∷ xs) zero = refl
at-map f P (x ∷ xs) (suc i) = at-map f P xs i

pub pointwise_length : {A B : Type 0} (R : A → B → Type 0) (xs : List A) (ys : List B) → Pointwise R xs ys → length xs ≡ length ys
pointwise_length R [] [] p = refl
pointwise_length R [] (y ∷ ys) p = absurd p
pointwise_length R (x ∷ xs) [] p = absurd p
pointwise_length R (x ∷ xs) (y ∷ ys) p = ap suc (pointwise_length R xs ys p.1)

pub pointwise_weaker : {A B : Type 0} (R S : A → B → Type 0) (xs : List A) (ys : List B) → ((x : A) (y : B) → IsMember x xs → R x y → S x y) → Pointwise R xs ys → Pointwise S xs ys
pointwise_weaker R S [] [] f p = tt
pointwise_weaker R S [] (y ∷ ys) f p = absurd p
pointwise_weaker R S (x ∷ xs) [] f p = absurd p
pointwise_weaker R S (x ∷ xs) (y ∷ ys) f p = (f x y (inl refl) p.0, pointwise_weaker R S xs ys (λ z w m. f z w (inr m)) p.1)

-- The partner of an item that is found.
pub pointwise_got : {A B : Type 0} (R : A → B → Type 0) (xs : List A) (ys : List B) (i : ℕ) (x : A) → Pointwise R xs ys → slice_get xs i ≡ Some x → (y : B) × (slice_get ys i ≡ Some y) × R x y
pointwise_got R [] ys i x p e = absurd (cc)
pointwise_got R (z ∷ xs) [] i x p e = absurd p
pointwise_got R (z ∷ xs) (y ∷ ys) zero x p e = let same : z ≡ x = cc in (y, refl, subst (λ w. R w y) same p.0)
pointwise_got R (z ∷ xs) (y ∷ ys) (suc i) x p e = pointwise_got R xs ys i x p.1 e

-- std's word for each item goes by places.
pub each_all : {A : Type 0} (P : A → Type 0) (xs : List A) → Each P xs → All P xs
each_all P [] h i d inside = absurd (omega arith)
each_all P (x ∷ xs) h zero d inside = h.0
each_all P (x ∷ xs) h (suc i) d inside = each_all P xs h.1 i d (omega arith)

pub all_each : {A : Type 0} (P : A → Type 0) (xs : List A) → All P xs → Each P xs
all_each P [] h = tt
all_each P (x ∷ xs) h = (h 0 x (omega arith), all_each P xs (λ i d inside. h (suc i) d (omega arith)))

pub each_push : {A : Type 0} (P : A → Type 0) (xs : List A) (x : A) → Each P xs → P x → Each P (xs ++ x ∷ [])
each_push P [] x h p = (p, tt)
each_push P (y ∷ ys) x h p = (h.0, each_push P ys x h.1 p)
