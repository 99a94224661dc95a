-- What holds of relations that rows give.
use Rattle.std.specs.List.{list_all}
use Rattle.std.proofs.Common.{◌≡◌, sym, subst, Bool, IsTrue, List, filter}
use Rattle.order_core.specs.Members.{IsMember}
use Rattle.order_core.specs.MemberLaws.{all_elim, all_intro, first, second, filter-mem, mem-filter, map-mem, mem-map}
use Rattle.order_core.specs.Order.{IsOrder}
use Rattle.order_core.specs.Chains.{IsMonotone}
use Rattle.antichain.specs.Basis.{Below, IsBasis}
use Rattle.ascent_examples.specs.declared.rows.Step.{Step}
use Rattle.ascent_examples.specs.Rows.{LeadsByRows, is_row, ends_from}

module _ {A : Type 0} (is_value : A → Bool) (leq : A → A → Bool) (laws : IsOrder is_value leq) (steps : List (Step A)) (rows : IsTrue (list_all (is_row is_value) steps)) where
  start_is : (r : Step A) → IsMember r steps → IsTrue (is_value r.start)
  start_is r m = first (is_value r.start) (is_value r.end) (all_elim (is_row is_value) steps r rows m)

  end_is : (r : Step A) → IsMember r steps → IsTrue (is_value r.end)
  end_is r m = second (is_value r.start) (is_value r.end) (all_elim (is_row is_value) steps r rows m)

  pub rows_are_monotone : IsMonotone is_value leq (LeadsByRows is_value leq steps)
  rows_are_monotone = record {
    states = λ x y v h. h.0;
    falling = λ x y z v w l h. (h.0, h.1, h.2, laws.transitive x y h.1.start v w (start_is h.1 h.2) l h.3, h.4);
    upward = λ x y z v w l h. (w, h.1, h.2, h.3, laws.transitive h.1.end y z (end_is h.1 h.2) h.0 w h.4 l);
  }

  pub ends_basis : (x : A) (made : List A) → IsBasis leq (λ y. IsMember y (ends_from leq steps x)) made → IsBasis leq (LeadsByRows is_value leq steps x) made
  ends_basis x made b = record {
    elements = λ t m. element t (mem-map (λ (r : Step A). r.end) (filter (λ r. leq x r.start) steps) t (b.elements t m));
    incomparable = b.incomparable;
    complete = λ z h. complete z h;
  }
    where
      element : (t : A) → ((r : Step A) × IsMember r (filter (λ r. leq x r.start) steps) × (t ≡ r.end)) → LeadsByRows is_value leq steps x t
      element t w =
          let m = mem-filter (λ r. leq x r.start) steps w.0 w.1 in
          let is = end_is w.0 m.0 in
          subst (λ (z : A). LeadsByRows is_value leq steps x z) (sym w.2) (is, w.0, m.0, m.1, laws.reflexive w.0.end is)

      complete : (z : A) → LeadsByRows is_value leq steps x z → Below leq made z
      complete z h =
          let at = b.complete h.1.end (map-mem (λ (r : Step A). r.end) (filter (λ r. leq x r.start) steps) h.1 (filter-mem (λ r. leq x r.start) steps h.1 h.2 h.3)) in
          let from = element at.0 (mem-map (λ (r : Step A). r.end) (filter (λ r. leq x r.start) steps) at.0 (b.elements at.0 at.1)) in
          (at.0, at.1, laws.transitive at.0 h.1.end z from.0 (end_is h.1 h.2) h.0 at.2 h.4)

  pub ends_are : (x : A) → IsTrue (list_all is_value (ends_from leq steps x))
  ends_are x = all_intro is_value (ends_from leq steps x) (λ t m.
      let w = mem-map (λ (r : Step A). r.end) (filter (λ r. leq x r.start) steps) t m in
      subst (λ (z : A). IsTrue (is_value z)) (sym w.2) (end_is w.0 (mem-filter (λ r. leq x r.start) steps w.0 w.1).0))
