-- The minimal items of a list are incomparable items of it, one of them below each.
use Rattle.std.proofs.Common.{◌≡◌, ◌↔◌, refl, subst, Bool, IsTrue, List, [], ◌⊎◌, inl, inr}
use Rattle.std.specs.List.{list_all}
use Rattle.order_core.specs.Order.{IsOrder}
use Rattle.order_core.specs.Members.{IsMember}
use Rattle.antichain.specs.Basis.{IsBasis}
use Rattle.antichain.specs.InsertedLaws.{all_apart, all_from, all_below}
use Rattle.antichain.specs.Minima.{minima, inserted_all}
use Rattle.antichain.proofs.MinimaLemmas.{inserted_all-minima}
use Rattle.antichain.specs.BasisLaws.{minimal_member, member_of_minimal}
use Rattle.order_core.specs.MemberLaws.{all_elim}
use Rattle.order_core.specs.Minimal.{IsMinimal}

module _ {A : Type 0} (is_value : A → Bool) (leq : A → A → Bool) (laws : IsOrder is_value leq) where
  pub minima_are : (xs : List A) → IsTrue (list_all is_value xs) → IsBasis leq (λ y. IsMember y xs) (minima leq xs)
  minima_are xs v =
      let e : inserted_all leq [] xs ≡ minima leq xs = inserted_all-minima is_value leq laws xs v in
      subst (λ (zs : List A). IsBasis leq (λ y. IsMember y xs) zs) e (record {
        incomparable = (all_apart is_value leq laws xs [] v (refl, refl)).1;
        elements = λ x m. listed x (all_from is_value leq laws xs [] v (refl, refl) x m);
        complete = λ x m. all_below is_value leq laws xs [] v (refl, refl) x m;
      })
    where
      listed : (x : A) → IsMember x xs ⊎ ⊥ → IsMember x xs
      listed x (inl m) = m
      listed x (inr m) = absurd m

  pub minima_exact : (xs : List A) → IsTrue (list_all is_value xs) → (x : A) → IsMember x (minima leq xs) ↔ IsMinimal leq (λ y. IsMember y xs) x
  minima_exact xs v x =
      let values : (y : A) → IsMember y xs → IsTrue (is_value y) = λ y m. all_elim is_value xs y v m in (
        minimal_member is_value leq laws (λ y. IsMember y xs) (minima leq xs) values (minima_are xs v) x,
        member_of_minimal is_value leq laws (λ y. IsMember y xs) (minima leq xs) values (minima_are xs v) x,
      )
