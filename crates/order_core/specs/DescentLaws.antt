-- In a finite list of values, each one is above a minimal one.
use Rattle.std.proofs.Common.{refl, sym, ◌∙◌, subst, inl, inr}
use Rattle.std.specs.List.{list_all}
use Rattle.std.specs.Prelude.{◌≡◌, Bool, true, false, IsTrue, List, [], ◌∷◌}
use Rattle.order_core.specs.MemberLaws.{first, second, all_elim}
use Rattle.order_core.specs.Members.{IsMember}
use Rattle.order_core.specs.Minimal.{IsMinimal}
use Rattle.order_core.specs.Order.{IsOrder}

module _ {A : Type 0} (is_value : A → Bool) (leq : A → A → Bool) (laws : IsOrder is_value leq) where
  -- A value of x ∷ xs that is at most x, and at most which no other of them is.
  record IsLow (x : A) (xs : List A) (low : A) : Type 0 where
    value : IsTrue (is_value low)
    member : IsMember low (x ∷ xs)
    below : IsTrue (leq low x)
    least : (y : A) → IsMember y (x ∷ xs) → IsTrue (leq y low) → y ≡ low

  descend : (x : A) (xs : List A) → IsTrue (is_value x) → IsTrue (list_all is_value xs) → (low : A) × IsLow x xs low
  descend x [] v vs = (x, record { value = v; member = inl refl; below = laws.reflexive x v; least = only })
    where
      only : (y : A) → IsMember y (x ∷ []) → IsTrue (leq y x) → y ≡ x
      only y (inl e) l = e
      only y (inr m) l = absurd m
  descend x (z ∷ zs) v vs = go (leq z x) refl (descend z zs z_value (second (is_value z) _ vs)) (descend x zs v (second (is_value z) _ vs))
    where
      z_value : IsTrue (is_value z)
      z_value = first _ _ vs

      go : (t : Bool) → leq z x ≡ t → (low : A) × IsLow z zs low → (low : A) × IsLow x zs low → (low : A) × IsLow x (z ∷ zs) low
      go true e d _ = (d.0, record { value = d.1.value; member = inr d.1.member; below = low_x; least = least })
        where
          low_x : IsTrue (leq d.0 x)
          low_x = laws.transitive d.0 z x d.1.value z_value v d.1.below e

          least : (y : A) → IsMember y (x ∷ z ∷ zs) → IsTrue (leq y d.0) → y ≡ d.0
          least y (inl f) l = f ∙ laws.antisymmetric x d.0 v d.1.value (subst (λ w. IsTrue (leq w d.0)) f l) low_x
          least y (inr m) l = d.1.least y m l
      go false e _ d = (d.0, record { value = d.1.value; member = within d.1.member; below = d.1.below; least = least })
        where
          within : IsMember d.0 (x ∷ zs) → IsMember d.0 (x ∷ z ∷ zs)
          within (inl f) = inl f
          within (inr m) = inr (inr m)

          least : (y : A) → IsMember y (x ∷ z ∷ zs) → IsTrue (leq y d.0) → y ≡ d.0
          least y (inl f) l = d.1.least y (inl f) l
          least y (inr (inr m)) l = d.1.least y (inr m) l
          least y (inr (inl f)) l =
              let at : IsTrue (leq z d.0) = subst (λ w. IsTrue (leq w d.0)) f l in
              let yes : leq z x ≡ true = laws.transitive z d.0 x z_value d.1.value v at d.1.below in
              absurd (cc)

  pub minimal_below : (xs : List A) (x : A) → IsTrue (list_all is_value xs) → IsMember x xs → (low : A) × IsMinimal leq (λ y. IsMember y xs) low × IsTrue (leq low x)
  minimal_below xs x vs m =
      let d = descend x xs (all_elim is_value xs x vs m) vs in
      (d.0, record { element = within d.0 d.1.member; least = λ y k. d.1.least y (inr k) }, d.1.below)
    where
      within : (w : A) → IsMember w (x ∷ xs) → IsMember w xs
      within w (inl e) = subst (λ z. IsMember z xs) (sym e) m
      within w (inr k) = k
