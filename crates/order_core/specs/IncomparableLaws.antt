-- Lists of incomparable items.
use Rattle.std.proofs.Common.{◌≡◌, ◌∙◌, refl, sym, ap, Bool, true, false, not, IsTrue, List, [], ◌∷◌, ◌++◌, ◌⊎◌, inl, inr}
use Rattle.std.specs.List.{list_all}
use Rattle.order_core.specs.MemberLaws.{first, second, both, not_true, all_elim, all_intro, mem-left, mem-right, mem-split, mem-front}
use Rattle.order_core.specs.Members.{IsMember}
use Rattle.order_core.specs.Order.{apart, are_incomparable}

pub apart_sym : {A : Type 0} (leq : A → A → Bool) (x y : A) → IsTrue (apart leq x y) → IsTrue (apart leq y x)
apart_sym leq x y h = both _ _ (second (not (leq x y)) _ h) (first _ _ h)

pub apart_intro : {A : Type 0} (leq : A → A → Bool) (x y : A) → (IsTrue (leq x y) → ⊥) → (IsTrue (leq y x) → ⊥) → IsTrue (apart leq x y)
apart_intro leq x y h k = both _ _ (never (leq x y) h) (never (leq y x) k)
  where
    never : (b : Bool) → (IsTrue b → ⊥) → IsTrue (not b)
    never true f = absurd (f refl)
    never false f = refl

-- of incomparable items one is at most another only if they are the same
pub one_of : {A : Type 0} (leq : A → A → Bool) (xs : List A) (v w : A) → IsTrue (are_incomparable leq xs) → IsMember v xs → IsMember w xs → IsTrue (leq v w) → v ≡ w
one_of leq [] v w h m k l = absurd m
one_of leq (x ∷ xs) v w h (inl e) (inl f) l = e ∙ sym f
one_of leq (x ∷ xs) v w h (inl e) (inr k) l =
    let a : IsTrue (apart leq x w) = all_elim (apart leq x) xs w (first _ _ h) k in
    let no_leq : leq x w ≡ false = not_true _ (first _ _ a) in
    let yes : leq x w ≡ true = sym (ap (λ z. leq z w) e) ∙ l in absurd (cc)
one_of leq (x ∷ xs) v w h (inr m) (inl f) l =
    let a : IsTrue (apart leq x v) = all_elim (apart leq x) xs v (first _ _ h) m in
    let no_leq : leq v x ≡ false = not_true _ (second (not (leq x v)) _ a) in
    let yes : leq v x ≡ true = sym (ap (λ z. leq v z) f) ∙ l in absurd (cc)
one_of leq (x ∷ xs) v w h (inr m) (inr k) l = one_of leq xs v w (second (list_all (apart leq x) xs) _ h) m k l

pub incomparable-left : {A : Type 0} (leq : A → A → Bool) (xs ys : List A) → IsTrue (are_incomparable leq (xs ++ ys)) → IsTrue (are_incomparable leq xs)
incomparable-left leq [] ys h = refl
incomparable-left leq (x ∷ xs) ys h = both _ _
    (all_intro (apart leq x) xs (λ w m. all_elim (apart leq x) (xs ++ ys) w (first _ _ h) (mem-left xs ys w m)))
    (incomparable-left leq xs ys (second (list_all (apart leq x) (xs ++ ys)) _ h))

pub incomparable-right : {A : Type 0} (leq : A → A → Bool) (xs ys : List A) → IsTrue (are_incomparable leq (xs ++ ys)) → IsTrue (are_incomparable leq ys)
incomparable-right leq [] ys h = h
incomparable-right leq (x ∷ xs) ys h = incomparable-right leq xs ys (second (list_all (apart leq x) (xs ++ ys)) _ h)

pub incomparable-cross : {A : Type 0} (leq : A → A → Bool) (xs ys : List A) (v w : A) → IsTrue (are_incomparable leq (xs ++ ys)) → IsMember v xs → IsMember w ys → IsTrue (apart leq v w)
incomparable-cross leq [] ys v w h m k = absurd m
incomparable-cross leq (x ∷ xs) ys v w h (inl e) k = rw e (all_elim (apart leq x) (xs ++ ys) w (first _ _ h) (mem-right xs ys w k))
incomparable-cross leq (x ∷ xs) ys v w h (inr m) k = incomparable-cross leq xs ys v w (second (list_all (apart leq x) (xs ++ ys)) _ h) m k

pub incomparable-join : {A : Type 0} (leq : A → A → Bool) (xs ys : List A) → IsTrue (are_incomparable leq xs) → IsTrue (are_incomparable leq ys)
    → ((v w : A) → IsMember v xs → IsMember w ys → IsTrue (apart leq v w)) → IsTrue (are_incomparable leq (xs ++ ys))
incomparable-join leq [] ys h k c = k
incomparable-join {A = A} leq (x ∷ xs) ys h k c = both _ _
    (all_intro (apart leq x) (xs ++ ys) (λ w m. from w (mem-split xs ys w m)))
    (incomparable-join leq xs ys (second (list_all (apart leq x) xs) _ h) k (λ v w m. c v w (inr m)))
  where
    from : (w : A) → IsMember w xs ⊎ IsMember w ys → IsTrue (apart leq x w)
    from w (inl l) = all_elim (apart leq x) xs w (first _ _ h) l
    from w (inr r) = c x w (inl refl) r

-- An item may stand anywhere.
pub incomparable-within : {A : Type 0} (leq : A → A → Bool) (xs ys : List A) (x : A) → IsTrue (are_incomparable leq (x ∷ (xs ++ ys))) → IsTrue (are_incomparable leq (xs ++ x ∷ ys))
incomparable-within leq [] ys x h = h
incomparable-within {A = A} leq (z ∷ xs) ys x h =
    let x_apart : IsTrue (list_all (apart leq x) (z ∷ (xs ++ ys))) = first _ _ h in
    let rest : IsTrue (are_incomparable leq (z ∷ (xs ++ ys))) = second (list_all (apart leq x) (z ∷ (xs ++ ys))) _ h in
    let zx : IsTrue (apart leq z x) = apart_sym leq x z (first _ _ x_apart) in
    both _ _ (all_intro (apart leq z) (xs ++ x ∷ ys) (λ w m. from zx (first _ _ rest) w (mem-front xs ys x w m)))
    (incomparable-within leq xs ys x (both _ _ (second (apart leq x z) _ x_apart) (second (list_all (apart leq z) (xs ++ ys)) _ rest)))
  where
    from : IsTrue (apart leq z x) → IsTrue (list_all (apart leq z) (xs ++ ys)) → (w : A) → IsMember w (x ∷ (xs ++ ys)) → IsTrue (apart leq z w)
    from zx a w (inl e) = rw e zx
    from zx a w (inr m) = all_elim (apart leq z) (xs ++ ys) w a m
