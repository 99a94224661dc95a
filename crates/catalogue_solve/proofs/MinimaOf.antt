-- The minimal rows of a sorted list, and of a list in whichever order it stands.
use Rattle.std.proofs.Common.{◌≡◌, ◌↔◌, Bool, IsTrue, List, []}
use Rattle.std.specs.List.Sorted.{IsPermutation}
use Rattle.antichain.specs.Basis.{IsBasis}
use Rattle.antichain.specs.Minima.{minima}
use Rattle.order_core.specs.Members.{IsMember}
use Rattle.order_core.specs.MemberLaws.{any_intro}
use Rattle.order_core.specs.Minimal.{IsMinimal}
use Rattle.order_core.specs.PermutationLaws.{members_permuted, members_before}
use Rattle.value_type.specs.declared.value.Value.{Value}
use Rattle.catalogue_solve.specs.Enough.{AreSortedMinima}
use Rattle.catalogue_solve.proofs.Rising.{are_sorted, kept_rising}

module _ (leq : List Value → List Value → Bool) where
  pub sorted_minima : (rows made : List (List Value)) → ((x : List Value) → IsMember x rows → IsTrue (leq x x)) → made ≡ minima leq rows → ((x : List Value) → IsMember x made ↔ IsMinimal leq (λ y. IsMember y rows) x)
      → IsBasis leq (λ y. IsMember y rows) made → IsTrue (are_sorted rows) → AreSortedMinima leq rows made
  sorted_minima rows made reflexive is exact basis sorted = record {
    exact = exact;
    rising = rw is (kept_rising leq [] rows reflexive sorted);
    complete = λ r m. let b = basis.complete r m in any_intro (λ row. leq row r) made b.0 b.1 b.2;
  }

  -- The minimal rows of a list are those of the list in another order.
  pub permuted_minima : (rows sorted made : List (List Value)) → IsPermutation rows sorted → AreSortedMinima leq sorted made → AreSortedMinima leq rows made
  permuted_minima rows sorted made p h = record {
    exact = λ r. ((λ k. to r ((h.exact r).0 k)), λ k. (h.exact r).1 (from r k));
    rising = h.rising;
    complete = λ r m. h.complete r (members_before rows sorted r p m);
  }
    where
      to : (r : List Value) → IsMinimal leq (λ y. IsMember y sorted) r → IsMinimal leq (λ y. IsMember y rows) r
      to r m = record { element = members_permuted rows sorted r p m.element; least = λ y k l. m.least y (members_before rows sorted y p k) l }

      from : (r : List Value) → IsMinimal leq (λ y. IsMember y rows) r → IsMinimal leq (λ y. IsMember y sorted) r
      from r m = record { element = members_before rows sorted r p m.element; least = λ y k l. m.least y (members_permuted rows sorted y p k) l }
