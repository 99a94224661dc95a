-- What holds of the members after inserting each item in turn.
use Rattle.std.proofs.Common.{◌≡◌, refl, Bool, true, false, not, IsTrue, List, [], ◌∷◌, ◌++◌, cond, filter, ◌⊎◌, inl, inr}
use Rattle.std.specs.List.{list_all, list_any}
use Rattle.order_core.specs.Order.{IsOrder}
use Rattle.order_core.specs.Members.{IsMember}
use Rattle.order_core.specs.MemberLaws.{first, second, true_not, decide, all_elim, any_elim, mem-left, mem-right, mem-split, mem-filter, filter-mem}
use Rattle.antichain.specs.Basis.{AreApart, Below}
use Rattle.antichain.specs.ListLaws.{inserted_incomparable, inserted_values}
use Rattle.antichain.specs.Minima.{inserted, inserted_all}

module _ {A : Type 0} (is_value : A → Bool) (leq : A → A → Bool) (laws : IsOrder is_value leq) where
  module _ (members : List A) (x : A) (fits : AreApart is_value leq members) (x_is : IsTrue (is_value x)) where
    pub inserted_apart : AreApart is_value leq (inserted leq members x)
    inserted_apart = go (list_any (λ y. leq y x) members) refl
      where
        go : (b : Bool) → list_any (λ y. leq y x) members ≡ b → AreApart is_value leq (cond b members (filter (λ y. not (leq x y)) members ++ x ∷ []))
        go true e = fits
        go false e = (inserted_values is_value (λ y. not (leq x y)) members x fits.0 x_is, inserted_incomparable leq members x fits.1 e)

    inserted_from : (t : A) → IsMember t (inserted leq members x) → IsMember t (x ∷ members)
    inserted_from t m = go (list_any (λ y. leq y x) members) m
      where
        at : IsMember t (filter (λ y. not (leq x y)) members) ⊎ IsMember t (x ∷ []) → IsMember t (x ∷ members)
        at (inl l) = inr (mem-filter (λ y. not (leq x y)) members t l).0
        at (inr (inl e)) = inl e
        at (inr (inr n)) = absurd n

        go : (b : Bool) → IsMember t (cond b members (filter (λ y. not (leq x y)) members ++ x ∷ [])) → IsMember t (x ∷ members)
        go true k = inr k
        go false k = at (mem-split (filter (λ y. not (leq x y)) members) (x ∷ []) t k)

    inserted_below : Below leq (inserted leq members x) x
    inserted_below = go (list_any (λ y. leq y x) members) refl
      where
        go : (b : Bool) → list_any (λ y. leq y x) members ≡ b → Below leq (cond b members (filter (λ y. not (leq x y)) members ++ x ∷ [])) x
        go true e = any_elim (λ y. leq y x) members e
        go false e = (x, mem-right (filter (λ y. not (leq x y)) members) _ x (inl refl), laws.reflexive x x_is)

    inserted_still : (z : A) → IsTrue (is_value z) → Below leq members z → Below leq (inserted leq members x) z
    inserted_still z zv b = go (list_any (λ y. leq y x) members)
      where
        at : IsTrue (leq x b.0) ⊎ (leq x b.0 ≡ false) → Below leq (filter (λ y. not (leq x y)) members ++ x ∷ []) z
        at (inl l) = (x, mem-right (filter (λ y. not (leq x y)) members) _ x (inl refl), laws.transitive x b.0 z x_is (all_elim is_value members b.0 fits.0 b.1) zv l b.2)
        at (inr e) = (b.0, mem-left _ (x ∷ []) b.0 (filter-mem (λ y. not (leq x y)) members b.0 b.1 (true_not _ e)), b.2)

        go : (c : Bool) → Below leq (cond c members (filter (λ y. not (leq x y)) members ++ x ∷ [])) z
        go true = b
        go false = at (decide (leq x b.0))

  pub all_apart : (xs members : List A) → IsTrue (list_all is_value xs) → AreApart is_value leq members → AreApart is_value leq (inserted_all leq members xs)
  all_apart [] members v f = f
  all_apart (x ∷ xs) members v f = all_apart xs (inserted leq members x) (second (is_value x) _ v) (inserted_apart members x f (first _ _ v))

  pub all_from : (xs members : List A) → IsTrue (list_all is_value xs) → AreApart is_value leq members → (t : A) → IsMember t (inserted_all leq members xs) → IsMember t xs ⊎ IsMember t members
  all_from [] members v f t m = inr m
  all_from (x ∷ xs) members v f t m =
      go (inserted_from members x f (first _ _ v) t) (all_from xs (inserted leq members x) (second (is_value x) _ v) (inserted_apart members x f (first _ _ v)) t m)
    where
      at : IsMember t (x ∷ members) → IsMember t (x ∷ xs) ⊎ IsMember t members
      at (inl e) = inl (inl e)
      at (inr k) = inr k

      go : (IsMember t (inserted leq members x) → IsMember t (x ∷ members)) → IsMember t xs ⊎ IsMember t (inserted leq members x) → IsMember t (x ∷ xs) ⊎ IsMember t members
      go f2 (inl k) = inl (inr k)
      go f2 (inr k) = at (f2 k)

  pub all_still : (xs members : List A) → IsTrue (list_all is_value xs) → AreApart is_value leq members → (z : A) → IsTrue (is_value z) → Below leq members z → Below leq (inserted_all leq members xs) z
  all_still [] members v f z zv b = b
  all_still (x ∷ xs) members v f z zv b =
      all_still xs (inserted leq members x) (second (is_value x) _ v) (inserted_apart members x f (first _ _ v)) z zv (inserted_still members x f (first _ _ v) z zv b)

  pub all_below : (xs members : List A) → IsTrue (list_all is_value xs) → AreApart is_value leq members → (z : A) → IsMember z xs → Below leq (inserted_all leq members xs) z
  all_below [] members v f z m = absurd m
  all_below (x ∷ xs) members v f z (inl e) = rw e
      (all_still xs (inserted leq members x) (second (is_value x) _ v) (inserted_apart members x f (first _ _ v)) x (first _ _ v) (inserted_below members x f (first _ _ v)))
  all_below (x ∷ xs) members v f z (inr m) = all_below xs (inserted leq members x) (second (is_value x) _ v) (inserted_apart members x f (first _ _ v)) z m
