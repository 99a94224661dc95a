-- A list with another item at one place, and what holds by the places of a list.
use Rattle.std.specs.Prelude.{◌≡◌, ℕ, zero, suc, Bool, IsTrue, IsSomeAnd, List, [], ◌∷◌, map, Option, Some, slice_get}
use Rattle.std.proofs.Common.{refl, sym, ap, subst, ◌∙◌, inl, inr}
use Rattle.order_core.specs.Members.{IsMember}
use Rattle.order_core.specs.MemberLaws.{first, second, both}
use Rattle.order_core.specs.Pointwise.{Pointwise}
use Rattle.order_core.specs.Tuple.{tuple_leq}

-- the list with the item at this place, where the list is as long
abbrev pub with_item : {A : Type 0} → ℕ → A → List A → List A
with_item i x [] = []
with_item zero x (y ∷ ys) = x ∷ ys
with_item (suc i) x (y ∷ ys) = y ∷ with_item i x ys

pub get-with_item : {A : Type 0} (i : ℕ) (x old : A) (xs : List A) → slice_get xs i ≡ Some old → slice_get (with_item i x xs) i ≡ Some x
get-with_item i x old [] e = absurd (cc)
get-with_item zero x old (y ∷ ys) e = refl
get-with_item (suc i) x old (y ∷ ys) e = get-with_item i x old ys e

pub get-with_item-other : {A : Type 0} (i j : ℕ) (x : A) (xs : List A) → (j ≡ i → ⊥) → slice_get (with_item i x xs) j ≡ slice_get xs j
get-with_item-other i j x [] other = refl
get-with_item-other zero zero x (y ∷ ys) other = absurd (other refl)
get-with_item-other zero (suc j) x (y ∷ ys) other = refl
get-with_item-other (suc i) zero x (y ∷ ys) other = refl
get-with_item-other (suc i) (suc j) x (y ∷ ys) other = get-with_item-other i j x ys (λ same. other (ap suc same))

-- The item that is there already changes nothing.
pub with_item-same : {A : Type 0} (i : ℕ) (x : A) (xs : List A) → slice_get xs i ≡ Some x → with_item i x xs ≡ xs
with_item-same i x [] e = refl
with_item-same zero x (y ∷ ys) e = let is : y ≡ x = cc in ap (λ z. z ∷ ys) (sym is)
with_item-same (suc i) x (y ∷ ys) e = ap (λ zs. y ∷ zs) (with_item-same i x ys e)

-- What changes nothing is the item that is there.
pub same-with_item : {A : Type 0} (i : ℕ) (x old : A) (xs : List A) → slice_get xs i ≡ Some old → with_item i x xs ≡ xs → x ≡ old
same-with_item i x old xs e same = let at : Some x ≡ Some old = sym (get-with_item i x old xs e) ∙ (ap (λ zs. slice_get zs i) same ∙ e) in cc

pub map-with_item : {A B : Type 0} (f : A → B) (i : ℕ) (x : A) (xs : List A) → map f (with_item i x xs) ≡ with_item i (f x) (map f xs)
map-with_item f i x [] = refl
map-with_item f zero x (y ∷ ys) = refl
map-with_item f (suc i) x (y ∷ ys) = ap (λ zs. f y ∷ zs) (map-with_item f i x ys)

pub some_of : {A : Type 0} (P : A → Type 0) (o : Option A) (x : A) → o ≡ Some x → P x → IsSomeAnd o P
some_of P o x e p = subst (λ z. IsSomeAnd z P) (sym e) p

pub of_some : {A : Type 0} (P : A → Type 0) (o : Option A) (x : A) → o ≡ Some x → IsSomeAnd o P → P x
of_some P o x e p = subst (λ z. IsSomeAnd z P) e p

-- The items at one place are partners.
pub pointwise_pair : {A B : Type 0} (R : A → B → Type 0) (xs : List A) (ys : List B) (i : ℕ) (x : A) (y : B) → Pointwise R xs ys → slice_get xs i ≡ Some x → slice_get ys i ≡ Some y → R x y
pointwise_pair R [] ys i x y h e g = absurd (cc)
pointwise_pair R (a ∷ xs) [] i x y h e g = absurd (cc)
pointwise_pair R (a ∷ xs) (b ∷ ys) (suc i) x y h e g = pointwise_pair R xs ys i x y h.1 e g
pointwise_pair R (a ∷ xs) (b ∷ ys) zero x y h e g =
    let left : a ≡ x = cc in
    let right : b ≡ y = cc in
    subst (λ z. R z y) left (subst (λ z. R a z) right h.0)

-- Where lists are as long, what holds of the items at each place holds of all partners.
pub pointwise_places : {A B : Type 0} (R S : A → B → Type 0) (xs : List A) (ys : List B) → Pointwise R xs ys → ((i : ℕ) (x : A) (y : B) → slice_get xs i ≡ Some x → slice_get ys i ≡ Some y → S x y) → Pointwise S xs ys
pointwise_places R S [] [] h at = tt
pointwise_places R S [] (y ∷ ys) h at = absurd h
pointwise_places R S (x ∷ xs) [] h at = absurd h
pointwise_places R S (x ∷ xs) (y ∷ ys) h at = (at zero x y refl refl, pointwise_places R S xs ys h.1 (λ i a b e g. at (suc i) a b e g))

pub pointwise-with_item : {A B : Type 0} (R : A → B → Type 0) (ps : List A) (xs : List B) (i : ℕ) (p : A) (x : B) → Pointwise R ps xs → slice_get ps i ≡ Some p → R p x → Pointwise R ps (with_item i x xs)
pointwise-with_item R [] [] i p x h e r = tt
pointwise-with_item R [] (y ∷ ys) i p x h e r = absurd h
pointwise-with_item R (q ∷ ps) [] i p x h e r = absurd h
pointwise-with_item R (q ∷ ps) (y ∷ ys) zero p x h e r = let is : q ≡ p = cc in (subst (λ z. R z x) (sym is) r, h.1)
pointwise-with_item R (q ∷ ps) (y ∷ ys) (suc i) p x h e r = (h.0, pointwise-with_item R ps ys i p x h.1 e r)

-- A tuple with a lesser item at one place is less.
pub leq-with_item : {P A : Type 0} (leq : P → A → A → Bool) (ps : List P) (xs : List A) (i : ℕ) (p : P) (x old : A) → IsTrue (tuple_leq (map leq ps) xs xs) → slice_get ps i ≡ Some p → slice_get xs i ≡ Some old
    → IsTrue (leq p x old) → IsTrue (tuple_leq (map leq ps) (with_item i x xs) xs)
leq-with_item leq [] [] i p x old self e g l = refl
leq-with_item leq [] (y ∷ ys) i p x old self e g l = absurd (cc)
leq-with_item leq (q ∷ ps) [] i p x old self e g l = absurd (cc)
leq-with_item leq (q ∷ ps) (y ∷ ys) (suc i) p x old self e g l = both _ _ (first _ _ self) (leq-with_item leq ps ys i p x old (second (leq q y y) _ self) e g l)
leq-with_item leq (q ∷ ps) (y ∷ ys) zero p x old self e g l =
    let part : q ≡ p = cc in
    let item : y ≡ old = cc in
    both _ _ (subst (λ z. IsTrue (leq z x y)) (sym part) (subst (λ z. IsTrue (leq p x z)) (sym item) l)) (second (leq q y y) _ self)
