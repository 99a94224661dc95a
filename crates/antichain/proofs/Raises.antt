-- The common bounds of an item and each of some others.
use Rattle.std.proofs.Common.{◌≡◌, refl, sym, subst, Bool, IsTrue, ◌&&◌, List, [], ◌∷◌, ◌++◌, ◌⊎◌, inl, inr}
use Rattle.order_core.specs.Order.{AreBounds}
use Rattle.order_core.specs.Members.{IsMember}
use Rattle.order_core.specs.MemberLaws.{all_elim, any_elim, first, second, mem-left, mem-right, mem-split}
use Rattle.antichain.specs.Basis.{Below, IsRaise}
use Rattle.antichain.specs.Covers.{IsCover}

module _ {A : Type 0} (is_value : A → Bool) (leq : A → A → Bool) where
  -- The common bounds with those of one more item.
  pub raises_more : (x item : A) (items seen found bounds : List A) → items ≡ seen ++ item ∷ [] → IsCover leq (IsRaise is_value leq x seen) found → AreBounds is_value leq x item bounds
      → IsCover leq (IsRaise is_value leq x items) (found ++ bounds)
  raises_more x item items seen found bounds e h b = record {
    elements = λ t m. raises t (mem-split found bounds t m);
    complete = λ t r. complete t r (mem-split seen (item ∷ []) r.below.0 (subst (λ (zs : List A). IsMember r.below.0 zs) e r.below.1));
  }
    where
      seen_in : (w : A) → IsMember w seen → IsMember w items
      seen_in w m = subst (λ (zs : List A). IsMember w zs) (sym e) (mem-left seen _ w m)

      raises : (t : A) → IsMember t found ⊎ IsMember t bounds → IsRaise is_value leq x items t
      raises t (inl m) = let r = h.elements t m in record { value = r.value; above = r.above; below = (r.below.0, seen_in r.below.0 r.below.1, r.below.2) }
      raises t (inr m) =
          let a : IsTrue (leq x t && leq item t) = all_elim (λ z. leq x z && leq item z) bounds t b.above m in
          record {
            value = all_elim is_value bounds t b.values m;
            above = first _ _ a;
            below = (item, subst (λ (zs : List A). IsMember item zs) (sym e) (mem-right seen _ item (inl refl)), second (leq x t) _ a);
          }

      complete : (t : A) → (r : IsRaise is_value leq x items t) → IsMember r.below.0 seen ⊎ IsMember r.below.0 (item ∷ []) → Below leq (found ++ bounds) t
      complete t r (inl m) =
          let f = h.complete t (record { value = r.value; above = r.above; below = (r.below.0, m, r.below.2) }) in
          (f.0, mem-left found bounds f.0 f.1, f.2)
      complete t r (inr (inl same)) =
          let l : IsTrue (leq item t) = subst (λ (z : A). IsTrue (leq z t)) same r.below.2 in
          let w = any_elim (λ y. leq y t) bounds (b.complete t r.value r.above l) in
          (w.0, mem-right found bounds w.0 w.1, w.2)
      complete t r (inr (inr m)) = absurd m
