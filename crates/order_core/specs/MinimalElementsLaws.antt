-- The minimal ones of listed elements are an upper set.
use Rattle.std.specs.Prelude.{◌≡◌, ℕ, Bool, true, false, ◌||◌, not, nat_eq, IsTrue, List, length}
use Rattle.std.specs.List.{list_any}
use Rattle.std.proofs.Common.{refl, sym, subst}
use Rattle.std.proofs.lemmas.Bool.{lt-ltb, eqb-true}
use Rattle.order_core.specs.Finite.{is_element, is_below}
use Rattle.order_core.specs.MemberLaws.{first, second, both, any_elim, all_elim, all_intro}
use Rattle.order_core.specs.Members.{IsMember}
use Rattle.order_core.specs.MinimalElements.{is_minimal_in, minimal_of}
use Rattle.order_core.specs.NumbersBelowLaws.{number_passes, numbers_rise}
use Rattle.order_core.specs.Upper.{is_upper}
use Rattle.order_core.specs.UpperLaws.{rising_incomparable}

module _ (table elements : List ℕ) where
  passes : (x : ℕ) → IsMember x (minimal_of table elements) → IsTrue (is_minimal_in table elements x)
  passes x m = (number_passes (is_minimal_in table elements) (length table) x m).1

  listed : (x : ℕ) → IsMember x (minimal_of table elements) → IsMember x elements
  listed x m =
      let w = any_elim (nat_eq x) elements (first _ _ (passes x m)) in
      let same : x ≡ w.0 = eqb-true x w.0 w.2 in subst (λ z. IsMember z elements) (sym same) w.1

  same_below : (v w : ℕ) → IsTrue (is_below table v w) → IsTrue (nat_eq v w || not (is_below table v w)) → v ≡ w
  same_below v w l h = go (nat_eq v w) refl h
    where
      go : (b : Bool) → nat_eq v w ≡ b → IsTrue (b || not (is_below table v w)) → v ≡ w
      go true e k = eqb-true v w e
      go false e k = absurd (let at : IsTrue (not true) = rw l at k in cc)

  pub minimal_of_upper : IsTrue (is_upper table (minimal_of table elements))
  minimal_of_upper = both _ _
      (all_intro (is_element table) (minimal_of table elements) (λ x m. lt-ltb x (length table) (number_passes (is_minimal_in table elements) (length table) x m).0))
      (both _ _ (numbers_rise (is_minimal_in table elements) (length table))
      (rising_incomparable (is_below table) 0 (minimal_of table elements) (numbers_rise (is_minimal_in table elements) (length table))
      (λ v w m n l. same_below v w l (all_elim (λ y. nat_eq y w || not (is_below table y w)) elements v (second (list_any (nat_eq w) elements) _ (passes w n)) (listed v m)))))
