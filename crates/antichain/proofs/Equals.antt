-- Values of which each is equal to one of the others.
use Rattle.std.proofs.Common.{◌≡◌, sym, subst, Bool, IsTrue, ◌&&◌, List}
use Rattle.std.specs.List.{list_all}
use Rattle.order_core.specs.Order.{IsOrder}
use Rattle.order_core.specs.Members.{IsMember}
use Rattle.order_core.specs.MemberLaws.{all_elim, all_intro, any_elim, any_intro, first, second, both}
use Rattle.antichain.specs.Basis.{has_equal}

module _ {A : Type 0} (is_value : A → Bool) (leq : A → A → Bool) (laws : IsOrder is_value leq) (xs ys : List A) (xs_are : IsTrue (list_all is_value xs)) (ys_are : IsTrue (list_all is_value ys)) where
  pub equal_listed : IsTrue (list_all (has_equal leq ys) xs) → (x : A) → IsMember x xs → IsMember x ys
  equal_listed h x m =
      let w = any_elim (λ y. leq x y && leq y x) ys (all_elim (has_equal leq ys) xs x h m) in
      let same : x ≡ w.0 = laws.antisymmetric x w.0 (all_elim is_value xs x xs_are m) (all_elim is_value ys w.0 ys_are w.1) (first _ _ w.2) (second (leq x w.0) _ w.2) in
      subst (λ (z : A). IsMember z ys) (sym same) w.1

  pub listed_equal : ((x : A) → IsMember x xs → IsMember x ys) → IsTrue (list_all (has_equal leq ys) xs)
  listed_equal h = all_intro (has_equal leq ys) xs (λ x m.
      let r = laws.reflexive x (all_elim is_value xs x xs_are m) in any_intro (λ y. leq x y && leq y x) ys x (h x m) (both _ _ r r))
