-- The members of a list, and tests of all or some of them.
use Rattle.std.proofs.Common.{slice_get, Some, subst, arith, ℕ, zero, suc, ◌<◌, length, get_or, ◌≡◌, ◌∙◌, refl, sym, ap, Bool, true, false, ◌&&◌, ◌||◌, not, IsTrue, List, [], ◌∷◌, ◌++◌, cond, filter, map, ◌⊎◌, inl, inr}
use Rattle.std.specs.List.{list_all, list_any, flat_map, Contains}
use Rattle.order_core.specs.Members.{IsMember}
use Rattle.std.proofs.Math.Bool.{or-true}
pub use Rattle.std.proofs.lemmas.Bool.{not-true as not_true, not_from_false as true_not}

pub first : (a b : Bool) → IsTrue (a && b) → IsTrue a
first true b h = refl
first false b h = absurd (cc)

pub second : (a b : Bool) → IsTrue (a && b) → IsTrue b
second true b h = h
second false b h = absurd (cc)

pub both : (a b : Bool) → IsTrue a → IsTrue b → IsTrue (a && b)
both true b h k = k
both false b h k = absurd (cc)

pub not_both : (b : Bool) → IsTrue (not b) → IsTrue b → ⊥
not_both true h k = cc
not_both false h k = cc

pub decide : (b : Bool) → IsTrue b ⊎ (b ≡ false)
decide true = inl refl
decide false = inr refl

pub any_elim : {A : Type 0} (p : A → Bool) (xs : List A) → IsTrue (list_any p xs) → (w : A) × IsMember w xs × IsTrue (p w)
any_elim p [] h = absurd (cc)
any_elim {A = A} p (x ∷ xs) h = go (p x) refl (any_elim p xs)
  where
    go : (b : Bool) → p x ≡ b → (IsTrue (list_any p xs) → (w : A) × IsMember w xs × IsTrue (p w)) → (w : A) × IsMember w (x ∷ xs) × IsTrue (p w)
    go true e ih = (x, inl refl, e)
    go false e ih =
        let h2 : p x || list_any p xs ≡ true = h in
        let h3 : false || list_any p xs ≡ true = rw e at h2 in
        let r = ih h3 in (r.0, inr r.1, r.2)

pub any_intro : {A : Type 0} (p : A → Bool) (xs : List A) (w : A) → IsMember w xs → IsTrue (p w) → IsTrue (list_any p xs)
any_intro p [] w m h = absurd m
any_intro p (x ∷ xs) w (inl e) h = let at : p x ≡ true = sym (ap p e) ∙ h in rw at refl
any_intro p (x ∷ xs) w (inr m) h = let ih : list_any p xs ≡ true = any_intro p xs w m h in rw ih (or-true (p x))

-- no item passes
pub none_elim : {A : Type 0} (p : A → Bool) (xs : List A) (w : A) → list_any p xs ≡ false → IsMember w xs → IsTrue (p w) → ⊥
none_elim p xs w h m t = let yes : list_any p xs ≡ true = any_intro p xs w m t in cc

pub all_elim : {A : Type 0} (p : A → Bool) (xs : List A) (w : A) → IsTrue (list_all p xs) → IsMember w xs → IsTrue (p w)
all_elim p [] w h m = absurd m
all_elim p (x ∷ xs) w h (inl e) = rw e (first _ _ h)
all_elim p (x ∷ xs) w h (inr m) = all_elim p xs w (second (p x) _ h) m

pub all_intro : {A : Type 0} (p : A → Bool) (xs : List A) → ((w : A) → IsMember w xs → IsTrue (p w)) → IsTrue (list_all p xs)
all_intro p [] h = refl
all_intro p (x ∷ xs) h = both _ _ (h x (inl refl)) (all_intro p xs (λ w m. h w (inr m)))

-- an item by its place
pub all_at : {A : Type 0} (p : A → Bool) (xs : List A) (i : ℕ) (d : A) → IsTrue (list_all p xs) → i < length xs → IsTrue (p (get_or xs i d))
all_at p [] i d h l = absurd (omega arith)
all_at p (x ∷ xs) zero d h l = first _ _ h
all_at p (x ∷ xs) (suc i) d h l = all_at p xs i d (second (p x) _ h) (omega arith)

pub mem-left : {A : Type 0} (xs ys : List A) (w : A) → IsMember w xs → IsMember w (xs ++ ys)
mem-left [] ys w m = absurd m
mem-left (x ∷ xs) ys w (inl e) = inl e
mem-left (x ∷ xs) ys w (inr m) = inr (mem-left xs ys w m)

pub mem-right : {A : Type 0} (xs ys : List A) (w : A) → IsMember w ys → IsMember w (xs ++ ys)
mem-right [] ys w m = m
mem-right (x ∷ xs) ys w m = inr (mem-right xs ys w m)

pub mem-split : {A : Type 0} (xs ys : List A) (w : A) → IsMember w (xs ++ ys) → IsMember w xs ⊎ IsMember w ys
mem-split [] ys w m = inr m
mem-split (x ∷ xs) ys w (inl e) = inl (inl e)
mem-split {A = A} (x ∷ xs) ys w (inr m) = go (mem-split xs ys w m)
  where
    go : IsMember w xs ⊎ IsMember w ys → IsMember w (x ∷ xs) ⊎ IsMember w ys
    go (inl l) = inl (inr l)
    go (inr r) = inr r

pub mem-filter : {A : Type 0} (p : A → Bool) (xs : List A) (w : A) → IsMember w (filter p xs) → IsMember w xs × IsTrue (p w)
mem-filter p [] w m = absurd m
mem-filter {A = A} p (x ∷ xs) w m = go (p x) refl (mem-filter p xs w) m
  where
    go : (b : Bool) → p x ≡ b → (IsMember w (filter p xs) → IsMember w xs × IsTrue (p w)) → IsMember w (cond b (x ∷ filter p xs) (filter p xs)) → IsMember w (x ∷ xs) × IsTrue (p w)
    go true e ih (inl f) = (inl f, ap p f ∙ e)
    go true e ih (inr k) = let r = ih k in (inr r.0, r.1)
    go false e ih k = let r = ih k in (inr r.0, r.1)

pub filter-mem : {A : Type 0} (p : A → Bool) (xs : List A) (w : A) → IsMember w xs → IsTrue (p w) → IsMember w (filter p xs)
filter-mem p [] w m h = absurd m
filter-mem {A = A} p (x ∷ xs) w m h = go (p x) refl (λ k. filter-mem p xs w k h) m
  where
    go : (b : Bool) → p x ≡ b → (IsMember w xs → IsMember w (filter p xs)) → IsMember w (x ∷ xs) → IsMember w (cond b (x ∷ filter p xs) (filter p xs))
    go true e ih (inl f) = inl f
    go true e ih (inr k) = inr (ih k)
    go false e ih (inl f) = let yes : p x ≡ true = sym (ap p f) ∙ h in absurd (cc)
    go false e ih (inr k) = ih k

-- taking an item from within to the front, and back
pub mem-front : {A : Type 0} (xs ys : List A) (x w : A) → IsMember w (xs ++ x ∷ ys) → IsMember w (x ∷ (xs ++ ys))
mem-front xs ys x w m = go (mem-split xs (x ∷ ys) w m)
  where
    go : IsMember w xs ⊎ IsMember w (x ∷ ys) → IsMember w (x ∷ (xs ++ ys))
    go (inl l) = inr (mem-left xs ys w l)
    go (inr (inl e)) = inl e
    go (inr (inr r)) = inr (mem-right xs ys w r)

pub mem-within : {A : Type 0} (xs ys : List A) (x w : A) → IsMember w (x ∷ (xs ++ ys)) → IsMember w (xs ++ x ∷ ys)
mem-within xs ys x w (inl e) = mem-right xs (x ∷ ys) w (inl e)
mem-within xs ys x w (inr m) = go (mem-split xs ys w m)
  where
    go : IsMember w xs ⊎ IsMember w ys → IsMember w (xs ++ x ∷ ys)
    go (inl l) = mem-left xs (x ∷ ys) w l
    go (inr r) = mem-right xs (x ∷ ys) w (inr r)

pub empty_of_none : {A : Type 0} (xs : List A) → ((x : A) → IsMember x xs → ⊥) → xs ≡ []
empty_of_none [] h = refl
empty_of_none (x ∷ xs) h = absurd (h x (inl refl))

pub append_nil : {A : Type 0} (xs : List A) → xs ++ [] ≡ xs
append_nil [] = refl
append_nil (x ∷ xs) = ap (λ ys. x ∷ ys) (append_nil xs)

pub mem-map : {A B : Type 0} (f : A → B) (xs : List A) (w : B) → IsMember w (map f xs) → (x : A) × IsMember x xs × (w ≡ f x)
mem-map f [] w m = absurd m
mem-map f (x ∷ xs) w (inl e) = (x, inl refl, e)
mem-map f (x ∷ xs) w (inr m) = let r = mem-map f xs w m in (r.0, inr r.1, r.2)

pub map-mem : {A B : Type 0} (f : A → B) (xs : List A) (x : A) → IsMember x xs → IsMember (f x) (map f xs)
map-mem f [] x m = absurd m
map-mem f (y ∷ ys) x (inl e) = inl (ap f e)
map-mem f (y ∷ ys) x (inr m) = inr (map-mem f ys x m)

pub mem-flat_map : {A B : Type 0} (f : A → List B) (xs : List A) (w : B) → IsMember w (flat_map f xs) → (x : A) × IsMember x xs × IsMember w (f x)
mem-flat_map f [] w m = absurd m
mem-flat_map {A = A} f (x ∷ xs) w m = go (mem-flat_map f xs w) (mem-split (f x) (flat_map f xs) w m)
  where
    go : (IsMember w (flat_map f xs) → (y : A) × IsMember y xs × IsMember w (f y)) → IsMember w (f x) ⊎ IsMember w (flat_map f xs) → (y : A) × IsMember y (x ∷ xs) × IsMember w (f y)
    go ih (inl l) = (x, inl refl, l)
    go ih (inr r) = let s = ih r in (s.0, inr s.1, s.2)

pub flat_map-mem : {A B : Type 0} (f : A → List B) (xs : List A) (x : A) (w : B) → IsMember x xs → IsMember w (f x) → IsMember w (flat_map f xs)
flat_map-mem f [] x w m k = absurd m
flat_map-mem f (y ∷ ys) x w (inl e) k = mem-left (f y) (flat_map f ys) w (rw (← e) k)
flat_map-mem f (y ∷ ys) x w (inr m) k = mem-right (f y) (flat_map f ys) w (flat_map-mem f ys x w m k)

-- an item that is found passes where all do
pub all_got : {A : Type 0} (p : A → Bool) (xs : List A) (i : ℕ) (x : A) → slice_get xs i ≡ Some x → IsTrue (list_all p xs) → IsTrue (p x)
all_got p [] i x e h = absurd (cc)
all_got p (y ∷ ys) zero x e h = let same : y ≡ x = cc in subst (λ z. IsTrue (p z)) same (first _ _ h)
all_got p (y ∷ ys) (suc i) x e h = all_got p ys i x e (second (p y) _ h)

-- std's word for a member goes by places.
pub contains_member : {A : Type 0} (xs : List A) (x : A) → IsMember x xs → Contains xs x
contains_member [] x m = absurd m
contains_member (y ∷ ys) x (inl e) = (0, omega arith, sym e)
contains_member (y ∷ ys) x (inr m) = let k = contains_member ys x m in (suc k.0, omega (arith, k.1), k.2)

pub member_at : {A : Type 0} (xs : List A) (i : ℕ) (d : A) → i < length xs → IsMember (get_or xs i d) xs
member_at [] i d inside = absurd (omega arith)
member_at (x ∷ xs) zero d inside = inl refl
member_at (x ∷ xs) (suc i) d inside = inr (member_at xs i d (omega arith))

pub member_contained : {A : Type 0} (xs : List A) (x : A) → Contains xs x → IsMember x xs
member_contained xs x h = subst (λ y. IsMember y xs) h.2 (member_at xs h.0 x h.1)

pub got_member : {A : Type 0} (xs : List A) (i : ℕ) (x : A) → slice_get xs i ≡ Some x → IsMember x xs
got_member [] i x e = absurd (cc)
got_member (y ∷ ys) zero x e = let is : y ≡ x = cc in inl (sym is)
got_member (y ∷ ys) (suc i) x e = inr (got_member ys i x e)

-- Tests that agree on the members filter and find the same.
pub filter_same : {A : Type 0} (p q : A → Bool) (xs : List A) → ((x : A) → IsMember x xs → p x ≡ q x) → filter p xs ≡ filter q xs
filter_same p q [] h = refl
filter_same p q (x ∷ xs) h = rw (h x (inl refl), filter_same p q xs (λ y m. h y (inr m))) refl

pub any_same : {A : Type 0} (p q : A → Bool) (xs : List A) → ((x : A) → IsMember x xs → p x ≡ q x) → list_any p xs ≡ list_any q xs
any_same p q [] h = refl
any_same p q (x ∷ xs) h = rw (h x (inl refl), any_same p q xs (λ y m. h y (inr m))) refl
