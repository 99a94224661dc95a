-- What a filter and an item at the end keep.
use Rattle.std.proofs.Common.{◌≡◌, refl, ℕ, zero, suc, Bool, true, false, ◌&&◌, ◌||◌, not, IsTrue, List, [], ◌∷◌, ◌++◌, drop, filter, cond, ◌+◌, add-one}
use Rattle.std.specs.List.{list_all, list_any}
use Rattle.order_core.specs.Order.{apart, are_incomparable}
use Rattle.order_core.specs.MemberLaws.{first, second, both}

pub all-filter : {A : Type 0} (p q : A → Bool) (xs : List A) → IsTrue (list_all p xs) → IsTrue (list_all p (filter q xs))
all-filter p q [] h = refl
all-filter p q (x ∷ xs) h = kept (q x) (all-filter p q xs (second (p x) _ h))
  where
    kept : (b : Bool) → IsTrue (list_all p (filter q xs)) → IsTrue (list_all p (cond b (x ∷ filter q xs) (filter q xs)))
    kept true ih = both _ _ (first (p x) _ h) ih
    kept false ih = ih

pub all-snoc : {A : Type 0} (p : A → Bool) (xs : List A) (x : A) → IsTrue (list_all p xs) → IsTrue (p x) → IsTrue (list_all p (xs ++ x ∷ []))
all-snoc p [] x h k = both _ _ k refl
all-snoc p (y ∷ xs) x h k = both _ _ (first (p y) _ h) (all-snoc p xs x (second (p y) _ h) k)

pub incomparable-filter : {A : Type 0} (leq : A → A → Bool) (q : A → Bool) (xs : List A) → IsTrue (are_incomparable leq xs) → IsTrue (are_incomparable leq (filter q xs))
incomparable-filter leq q [] h = refl
incomparable-filter leq q (x ∷ xs) h = kept (q x) (incomparable-filter leq q xs (second (list_all (apart leq x) xs) _ h))
  where
    kept : (b : Bool) → IsTrue (are_incomparable leq (filter q xs)) → IsTrue (are_incomparable leq (cond b (x ∷ filter q xs) (filter q xs)))
    kept true ih = both _ _ (all-filter (apart leq x) q xs (first _ _ h)) ih
    kept false ih = ih

-- Where no item is at most x and x is at most none, x may stand last.
pub incomparable-snoc : {A : Type 0} (leq : A → A → Bool) (xs : List A) (x : A) → IsTrue (are_incomparable leq xs)
    → list_any (λ y. leq y x) xs ≡ false → list_any (λ y. leq x y) xs ≡ false → IsTrue (are_incomparable leq (xs ++ x ∷ []))
incomparable-snoc leq [] x h below above = refl
incomparable-snoc leq (y ∷ xs) x h below above = both _ _
    (all-snoc (apart leq y) xs x (first _ _ h) (both_false (leq y x) (leq x y) (left (leq y x) _ below) (left (leq x y) _ above)))
    (incomparable-snoc leq xs x (second (list_all (apart leq y) xs) _ h) (right (leq y x) _ below) (right (leq x y) _ above))
  where
    left : (a b : Bool) → a || b ≡ false → a ≡ false
    left true b e = absurd (cc)
    left false b e = refl

    right : (a b : Bool) → a || b ≡ false → b ≡ false
    right true b e = absurd (cc)
    right false b e = e

    both_false : (a b : Bool) → a ≡ false → b ≡ false → IsTrue (not a && not b)
    both_false a b e f = rw (e, f) refl

none-filter : {A : Type 0} (p : A → Bool) (xs : List A) → list_any p (filter (λ y. not (p y)) xs) ≡ false
none-filter p [] = refl
none-filter p (x ∷ xs) = kept (p x) refl (none-filter p xs)
  where
    kept : (b : Bool) → p x ≡ b → list_any p (filter (λ y. not (p y)) xs) ≡ false → list_any p (cond (not b) (x ∷ filter (λ y. not (p y)) xs) (filter (λ y. not (p y)) xs)) ≡ false
    kept true e ih = ih
    kept false e ih = rw e ih

any-filter : {A : Type 0} (p q : A → Bool) (xs : List A) → list_any p xs ≡ false → list_any p (filter q xs) ≡ false
any-filter p q [] h = refl
any-filter p q (x ∷ xs) h = kept (q x) (p x) refl (any-filter p q xs (right (p x) _ h))
  where
    right : (a b : Bool) → a || b ≡ false → b ≡ false
    right true b e = absurd (cc)
    right false b e = e

    kept : (b c : Bool) → p x ≡ c → list_any p (filter q xs) ≡ false → list_any p (cond b (x ∷ filter q xs) (filter q xs)) ≡ false
    kept false c e ih = ih
    kept true false e ih = rw e ih
    kept true true e ih = absurd (let h2 : p x || list_any p xs ≡ false = h in let h3 : true || list_any p xs ≡ false = rw e at h2 in cc)

-- The new list of an insert stays incomparable, and of values.
pub inserted_incomparable : {A : Type 0} (leq : A → A → Bool) (xs : List A) (x : A) → IsTrue (are_incomparable leq xs) → list_any (λ y. leq y x) xs ≡ false
    → IsTrue (are_incomparable leq (filter (λ y. not (leq x y)) xs ++ x ∷ []))
inserted_incomparable leq xs x h below =
    incomparable-snoc leq (filter (λ y. not (leq x y)) xs) x (incomparable-filter leq (λ y. not (leq x y)) xs h) (any-filter (λ y. leq y x) (λ y. not (leq x y)) xs below) (none-filter (leq x) xs)

pub inserted_values : {A : Type 0} (p q : A → Bool) (xs : List A) (x : A) → IsTrue (list_all p xs) → IsTrue (p x) → IsTrue (list_all p (filter q xs ++ x ∷ []))
inserted_values p q xs x h k = all-snoc p (filter q xs) x (all-filter p q xs h) k

all-drop_suc : {A : Type 0} (p : A → Bool) (xs : List A) (i : ℕ) → IsTrue (list_all p (drop i xs)) → IsTrue (list_all p (drop (suc i) xs))
all-drop_suc p [] i h = refl
all-drop_suc p (x ∷ xs) zero h = second (p x) _ h
all-drop_suc p (x ∷ xs) (suc i) h = all-drop_suc p xs i h

-- what is left of a list after one more item
pub all-drop_more : {A : Type 0} (p : A → Bool) (xs : List A) (i : ℕ) → IsTrue (list_all p (drop i xs)) → IsTrue (list_all p (drop (i + 1) xs))
all-drop_more p xs i h = rw add-one (all-drop_suc p xs i h)
