-- Inserting each item in turn keeps the minimal ones.
use Rattle.std.proofs.Common.{◌≡◌, ◌∙◌, refl, sym, ap, Bool, true, false, ◌&&◌, ◌||◌, not, IsTrue, List, [], ◌∷◌, ◌++◌, cond, filter, inl, inr, append_assoc}
use Rattle.std.specs.List.{list_all, list_any}
use Rattle.std.proofs.lemmas.List.Elements.{filter-append}
use Rattle.std.proofs.lemmas.List.Folds.{list_any-append}
use Rattle.order_core.specs.Order.{IsOrder, are_incomparable}
use Rattle.order_core.specs.Members.{IsMember}
use Rattle.order_core.specs.MemberLaws.{first, second, any_elim, any_intro, all_elim, append_nil, filter_same}
use Rattle.order_core.specs.IncomparableLaws.{one_of}
use Rattle.antichain.specs.Minima.{is_less, kept, minima, inserted, inserted_all}
use Rattle.antichain.specs.ListLaws.{inserted_incomparable, inserted_values}
use Rattle.std.proofs.Math.Bool.{or-true, or-false}

pub inserted_all-snoc : {A : Type 0} (leq : A → A → Bool) (members xs : List A) (x : A)
    → inserted_all leq members (xs ++ x ∷ []) ≡ inserted leq (inserted_all leq members xs) x
inserted_all-snoc leq members [] x = refl
inserted_all-snoc leq members (y ∷ xs) x = inserted_all-snoc leq (inserted leq members y) xs x

-- two filters agree where their tests agree on the items
pub filter_all : {A : Type 0} (xs : List A) → filter (λ m. true) xs ≡ xs
filter_all [] = refl
filter_all (x ∷ xs) = ap (λ ys. x ∷ ys) (filter_all xs)

filter_filter : {A : Type 0} (p q : A → Bool) (xs : List A) → filter p (filter q xs) ≡ filter (λ m. q m && p m) xs
filter_filter p q [] = refl
filter_filter p q (x ∷ xs) = go (q x) (filter_filter p q xs)
  where
    go : (b : Bool) → filter p (filter q xs) ≡ filter (λ m. q m && p m) xs
        → filter p (cond b (x ∷ filter q xs) (filter q xs)) ≡ cond (b && p x) (x ∷ filter (λ m. q m && p m) xs) (filter (λ m. q m && p m) xs)
    go true ih = ap (λ ys. cond (p x) (x ∷ ys) ys) ih
    go false ih = ih

-- a filter that passes all that p passes
any_filtered : {A : Type 0} (p q : A → Bool) (xs : List A) → ((m : A) → IsMember m xs → p m ≡ true → q m ≡ true) → list_any p (filter q xs) ≡ list_any p xs
any_filtered p q [] h = refl
any_filtered {A = A} p q (x ∷ xs) h = go (q x) (p x) refl refl (any_filtered p q xs (λ m k. h m (inr k)))
  where
    go : (b c : Bool) → q x ≡ b → p x ≡ c → list_any p (filter q xs) ≡ list_any p xs → list_any p (cond b (x ∷ filter q xs) (filter q xs)) ≡ (p x || list_any p xs)
    go true c e f ih = ap (λ b. p x || b) ih
    go false false e f ih = rw f ih
    go false true e f ih = let yes : q x ≡ true = h x (inl refl) f in absurd (cc)

module _ {A : Type 0} (is_value : A → Bool) (leq : A → A → Bool) (laws : IsOrder is_value leq) where
  -- no item of xs is strictly below m
  abbrev survives : List A → A → Bool
  survives xs m = not (list_any (λ y. is_less leq y m) xs)

  -- the members decide what the items before decide
  abbrev Decides : List A → List A → Type 0
  Decides members before = (z : A) → IsTrue (is_value z) → list_any (λ y. leq y z) members ≡ list_any (λ y. leq y z) before

  module _ (members before : List A) (x : A) (members_are : IsTrue (list_all is_value members)) (x_is : IsTrue (is_value x))
      (apart : IsTrue (are_incomparable leq members)) (decides : Decides members before) where
    -- a member is at most x, so x changes nothing
    module _ (low : list_any (λ y. leq y x) members ≡ true) where
      unbelow : (m : A) → IsMember m members → is_less leq x m ≡ false
      unbelow m k =
          let w = any_elim (λ y. leq y x) members low in
          go (leq x m) refl w.0 w.1 w.2
        where
          go : (b : Bool) → leq x m ≡ b → (w : A) → IsMember w members → leq w x ≡ true → is_less leq x m ≡ false
          go false e w wk wx = rw e
          go true e w wk wx =
              let wm : leq w m ≡ true = laws.transitive w x m (all_elim is_value members w members_are wk) x_is (all_elim is_value members m members_are k) wx e in
              let same : w ≡ m = one_of leq members w m apart wk k wm in
              let mx : leq m x ≡ true = sym (ap (λ v. leq v x) same) ∙ wx in
              rw (e, mx) refl

      same_survive : (xs : List A) → filter (survives (x ∷ xs)) members ≡ filter (survives xs) members
      same_survive xs = filter_same (survives (x ∷ xs)) (survives xs) members (λ m k. ap (λ b. not (b || list_any (λ y. is_less leq y m) xs)) (unbelow m k))

      still_decides : Decides members (x ∷ before)
      still_decides z zv = go (leq x z) refl
        where
          go : (b : Bool) → leq x z ≡ b → list_any (λ y. leq y z) members ≡ (leq x z || list_any (λ y. leq y z) before)
          go false e = rw e (decides z zv)
          go true e =
              let w = any_elim (λ y. leq y x) members low in
              let wz : leq w.0 z ≡ true = laws.transitive w.0 x z (all_elim is_value members w.0 members_are w.1) x_is zv w.2 e in
              rw (e, any_intro (λ y. leq y z) members w.0 w.1 wz)

    -- no member is at most x, so x joins them
    module _ (high : list_any (λ y. leq y x) members ≡ false) where
      unlow : (m : A) → IsMember m members → leq m x ≡ false
      unlow m k = go (leq m x) refl
        where
          go : (b : Bool) → leq m x ≡ b → leq m x ≡ false
          go false e = e
          go true e = let yes : list_any (λ y. leq y x) members ≡ true = any_intro (λ y. leq y x) members m k e in absurd (cc)

      joins_survive : (xs : List A) → filter (survives (x ∷ xs)) members ≡ filter (survives xs) (filter (λ m. not (leq x m)) members)
      joins_survive xs = filter_same (survives (x ∷ xs)) (λ m. not (leq x m) && survives xs m) members step ∙ sym (filter_filter (survives xs) (λ m. not (leq x m)) members)
        where
          de_morgan : (a b : Bool) → not ((a && true) || b) ≡ (not a && not b)
          de_morgan true b = refl
          de_morgan false b = refl

          step : (m : A) → IsMember m members → survives (x ∷ xs) m ≡ (not (leq x m) && survives xs m)
          step m k = rw (unlow m k) (de_morgan (leq x m) (list_any (λ y. is_less leq y m) xs))

      now_decides : Decides (filter (λ m. not (leq x m)) members ++ x ∷ []) (x ∷ before)
      now_decides z zv = go (leq x z) refl
        where
          passes : leq x z ≡ false → (m : A) → IsMember m members → leq m z ≡ true → not (leq x m) ≡ true
          passes e m k h = at (leq x m) refl
            where
              at : (b : Bool) → leq x m ≡ b → not (leq x m) ≡ true
              at false f = rw f
              at true f =
                  let xz : leq x z ≡ true = laws.transitive x m z x_is (all_elim is_value members m members_are k) zv f h in absurd (cc)

          go : (b : Bool) → leq x z ≡ b → list_any (λ y. leq y z) (filter (λ m. not (leq x m)) members ++ x ∷ []) ≡ (leq x z || list_any (λ y. leq y z) before)
          go true e = rw (list_any-append (λ y. leq y z) (filter (λ m. not (leq x m)) members) (x ∷ []), e) (or-true (list_any (λ y. leq y z) (filter (λ m. not (leq x m)) members)))
          go false e = rw (list_any-append (λ y. leq y z) (filter (λ m. not (leq x m)) members) (x ∷ []), e, any_filtered (λ y. leq y z) (λ m. not (leq x m)) members (passes e))
              (or-false (list_any (λ y. leq y z) members) ∙ decides z zv)

  -- Inserting the items in turn leaves the members that survive, and keeps what is to be kept.
  inserts : (xs members before : List A) → IsTrue (list_all is_value xs) → IsTrue (list_all is_value members) → IsTrue (are_incomparable leq members) → Decides members before
      → inserted_all leq members xs ≡ filter (survives xs) members ++ kept leq before xs
  inserts [] members before v m a d = sym (append_nil (filter (survives []) members) ∙ filter_all members)
  inserts (x ∷ xs) members before v m a d =
      let x_is : IsTrue (is_value x) = first _ _ v in
      let rest : IsTrue (list_all is_value xs) = second (is_value x) _ v in
      go (list_any (λ y. leq y x) members) refl x_is
      (λ e. inserts xs members (x ∷ before) rest m a (still_decides members before x m x_is a d e))
      (λ e. inserts xs (filter (λ y. not (leq x y)) members ++ x ∷ []) (x ∷ before) rest
      (inserted_values is_value (λ y. not (leq x y)) members x m x_is) (inserted_incomparable leq members x a e) (now_decides members before x m x_is a d e))
    where
      tail : (b : Bool) (front : List A) → (front ++ cond (not b) (x ∷ []) []) ++ kept leq (x ∷ before) xs ≡ front ++ cond b (kept leq (x ∷ before) xs) (x ∷ kept leq (x ∷ before) xs)
      tail true front = ap (λ ys. ys ++ kept leq (x ∷ before) xs) (append_nil front)
      tail false front = append_assoc front (x ∷ []) (kept leq (x ∷ before) xs)

      go : (b : Bool) → list_any (λ y. leq y x) members ≡ b → IsTrue (is_value x)
          → (list_any (λ y. leq y x) members ≡ true → inserted_all leq members xs ≡ filter (survives xs) members ++ kept leq (x ∷ before) xs)
          → (list_any (λ y. leq y x) members ≡ false → inserted_all leq (filter (λ y. not (leq x y)) members ++ x ∷ []) xs
          ≡ filter (survives xs) (filter (λ y. not (leq x y)) members ++ x ∷ []) ++ kept leq (x ∷ before) xs)
          → inserted_all leq (inserted leq members x) xs ≡ filter (survives (x ∷ xs)) members ++ kept leq before (x ∷ xs)
      go true e x_is low high =
          let eb : list_any (λ y. leq y x) before ≡ true = sym (d x x_is) ∙ e in
          rw (e, eb) (low e ∙ ap (λ ys. ys ++ kept leq (x ∷ before) xs) (sym (same_survive members before x m x_is a d e xs)))
      go false e x_is low high =
          let eb : list_any (λ y. leq y x) before ≡ false = sym (d x x_is) ∙ e in
          rw (e, eb, joins_survive members before x m x_is a d e xs)
          (high e ∙ ap (λ ys. ys ++ kept leq (x ∷ before) xs) (filter-append (survives xs) (filter (λ y. not (leq x y)) members) (x ∷ []))
          ∙ tail (list_any (λ y. is_less leq y x) xs) (filter (survives xs) (filter (λ y. not (leq x y)) members)))

  -- Inserting all items in turn into no members gives the minimal ones.
  pub inserted_all-minima : (xs : List A) → IsTrue (list_all is_value xs) → inserted_all leq [] xs ≡ minima leq xs
  inserted_all-minima xs v = inserts xs [] [] v refl refl (λ z zv. refl)
