-- What each call keeps.
use Rattle.std.proofs.Common.{◌≡◌, refl, sym, subst, ℕ, suc, Bool, false, not, IsTrue, List, [], ◌∷◌, ◌++◌, filter, ◌⊎◌, inl, inr, append_assoc}
use Rattle.std.specs.List.{list_all, list_any}
use Rattle.order_core.specs.ChainLaws.{least_steps_to_itself}
use Rattle.order_core.specs.IncomparableLaws.{apart_intro, incomparable-left, incomparable-right, incomparable-cross, incomparable-join, incomparable-within}
use Rattle.order_core.specs.Members.{IsMember}
use Rattle.order_core.specs.MemberLaws.{any_elim, none_elim, first, both, not_true, true_not, decide, all_elim, all_intro, mem-left, mem-right, mem-split, mem-filter, filter-mem, mem-front, mem-within, empty_of_none, append_nil}
use Rattle.order_core.specs.Order.{IsOrder, IsLeast, apart, are_incomparable}
use Rattle.antichain.specs.Basis.{Below, IsBasis}
use Rattle.antichain.specs.BasisLaws.{minimal_member, member_of_minimal, least_basis}
use Rattle.antichain.specs.ListLaws.{incomparable-filter}
use Rattle.order_core.specs.Chains.{IsMonotone, EndsChain, IsLeastEnd, IsSteady}
use Rattle.kleene_loop.proofs.Ends.{ends_values, ends_upward, ends_fall, self_stays, ends_above}
use Rattle.kleene_loop.specs.Ascent.{IsClimb, IsRaisedBy, IsAscent}

-- An element of a basis may stand anywhere.
basis_within : {A : Type 0} (leq : A → A → Bool) (U : A → Type 0) (xs ys : List A) (x : A) → IsBasis leq U (x ∷ (xs ++ ys)) → IsBasis leq U (xs ++ x ∷ ys)
basis_within leq U xs ys x b = record {
  elements = λ w m. b.elements w (mem-front xs ys x w m);
  incomparable = incomparable-within leq xs ys x b.incomparable;
  complete = λ y u. let w = b.complete y u in (w.0, mem-within xs ys x w.0 w.1, w.2);
}

module _ {A : Type 0} (is_value : A → Bool) (leq : A → A → Bool) (leads : A → A → Type 0) (laws : IsOrder is_value leq) where
  abbrev S : ℕ → A → Type 0
  S = EndsChain is_value leq leads

  pub begins : IsMonotone is_value leq leads → (least : List A) → IsLeast is_value leq least → IsClimb is_value leq leads 0 least [] [] []
  begins monotone least h = record {
    monotone = monotone;
    basis = rw (append_nil least) (least_basis is_value leq laws least h);
    stays = λ x m. absurd m;
    goes = λ x m. absurd m;
    incomparable = refl;
    ends = λ t m. absurd m;
    above = λ t m. absurd m;
    covers = λ x t m. absurd m;
    new = λ x m. tt;
  }

  module _ (k : ℕ) (x : A) (todo kept raised left : List A) (climb : IsClimb is_value leq leads k (x ∷ todo) kept raised left) where
    all_values : (t : A) → S k t → IsTrue (is_value t)
    all_values = ends_values is_value leq leads laws climb.monotone k

    x_ends : S k x
    x_ends = climb.basis.elements x (inl refl)

    x_least : IsLeastEnd is_value leq leads k x
    x_least = minimal_member is_value leq laws (S k) _ all_values climb.basis x (inl refl)

    raised_value : (t : A) → S (suc k) t → IsTrue (is_value t)
    raised_value = ends_values is_value leq leads laws climb.monotone (suc k)

    kept_in : (y : A) → IsMember y kept → IsMember y (x ∷ (todo ++ (kept ++ left)))
    kept_in y m = inr (mem-right todo _ y (mem-left kept left y m))

    kept_least : (y : A) → IsMember y kept → IsLeastEnd is_value leq leads k y
    kept_least y m = minimal_member is_value leq laws (S k) _ all_values climb.basis y (kept_in y m)

    -- x stays
    module _ (stay : leads x x) where
      not_above : A → Bool
      not_above r = not (leq x r)

      abbrev still : List A
      still = filter (λ r. not (leq x r)) raised

      kept_basis : IsBasis leq (S k) (todo ++ ((kept ++ x ∷ []) ++ left))
      kept_basis =
          let b : IsBasis leq (S k) (x ∷ ((todo ++ kept) ++ left)) = rw (append_assoc todo kept left) climb.basis in
          let c = basis_within leq (S k) (todo ++ kept) left x b in
          simp append_assoc (rw (append_assoc todo kept (x ∷ left)) at c)

      still_apart : (r : A) → IsMember r still → IsTrue (apart leq x r)
      still_apart r m =
          let in_raised = mem-filter (λ r. not (leq x r)) raised r m in
          let unabove : leq x r ≡ false = not_true _ in_raised.1 in
          let r_ends = climb.ends r in_raised.0 in
          apart_intro leq x r (λ l. absurd (cc)) (λ l.
          let same : r ≡ x = x_least.least r (ends_fall is_value leq leads laws climb.monotone k r r_ends) l in
          let self : IsTrue (leq x r) = subst (λ (z : A). IsTrue (leq x z)) (sym same) (laws.reflexive x (all_values x x_ends)) in
          absurd (cc))

      x_apart : (w : A) → IsMember w (still ++ kept) → IsTrue (apart leq x w)
      x_apart w m = go (mem-split still kept w m)
        where
          go : IsMember w still ⊎ IsMember w kept → IsTrue (apart leq x w)
          go (inl l) = still_apart w l
          go (inr r) = all_elim (apart leq x) (todo ++ (kept ++ left)) w (first _ _ climb.basis.incomparable) (mem-right todo _ w (mem-left kept left w r))

      kept_incomparable : IsTrue (are_incomparable leq (still ++ (kept ++ x ∷ [])))
      kept_incomparable =
          let a = incomparable-filter leq (λ r. not (leq x r)) raised (incomparable-left leq raised kept climb.incomparable) in
          let b = incomparable-right leq raised kept climb.incomparable in
          let c = incomparable-join leq still kept a b (λ v w m n. incomparable-cross leq raised kept v w climb.incomparable (mem-filter (λ r. not (leq x r)) raised v m).0 n) in
          let d : IsTrue (are_incomparable leq (x ∷ ((still ++ kept) ++ []))) = rw (append_nil (still ++ kept)) (both _ _ (all_intro (apart leq x) (still ++ kept) x_apart) c) in
          let e = incomparable-within leq (still ++ kept) [] x d in
          rw (append_assoc still kept (x ∷ [])) at e

      kept_covers : (y t : A) → IsMember y left → IsTrue (leq y t) → leads y t → Below leq (still ++ (kept ++ x ∷ [])) t
      kept_covers y t m l h =
          let b = climb.covers y t m l h in
          go b.0 b.2 (mem-split raised kept b.0 b.1)
        where
          t_value : IsTrue (is_value t)
          t_value = climb.monotone.states y t (all_values y (climb.basis.elements y (inr (mem-right todo _ y (mem-right kept left y m))))) h

          over : (w : A) → IsTrue (leq w t) → IsMember w raised → IsTrue (leq x w) ⊎ (leq x w ≡ false) → Below leq (still ++ (kept ++ x ∷ [])) t
          over w wt r (inl above) = (x, mem-right still _ x (mem-right kept _ x (inl refl)), laws.transitive x w t (all_values x x_ends) (raised_value w (climb.ends w r)) t_value above wt)
          over w wt r (inr unabove) = (w, mem-left still _ w (filter-mem (λ r. not (leq x r)) raised w r (true_not _ unabove)), wt)

          go : (w : A) → IsTrue (leq w t) → IsMember w raised ⊎ IsMember w kept → Below leq (still ++ (kept ++ x ∷ [])) t
          go w wt (inl r) = over w wt r (decide (leq x w))
          go w wt (inr s) = (w, mem-right still _ w (mem-left kept _ w s), wt)

      kept_stays : (y : A) → IsMember y kept ⊎ IsMember y (x ∷ []) → leads y y
      kept_stays y (inl m) = climb.stays y m
      kept_stays y (inr (inl e)) = subst (λ (z : A). leads z z) (sym e) stay
      kept_stays y (inr (inr m)) = absurd m

      pub keeps : IsClimb is_value leq leads k todo (kept ++ x ∷ []) (filter (λ r. not (leq x r)) raised) left
      keeps = record {
        monotone = climb.monotone;
        basis = kept_basis;
        stays = λ y m. kept_stays y (mem-split kept (x ∷ []) y m);
        goes = climb.goes;
        incomparable = kept_incomparable;
        ends = λ t m. climb.ends t (mem-filter (λ r. not (leq x r)) raised t m).0;
        above = λ t m. climb.above t (mem-filter (λ r. not (leq x r)) raised t m).0;
        covers = kept_covers;
        new = λ y m. climb.new y (inr m);
      }

    -- x goes
    module _ (go_away : S (suc k) x → ⊥) (made : List A) (h : IsRaisedBy leq (λ t. IsTrue (leq x t) × leads x t) kept raised made) where
      left_basis : IsBasis leq (S k) (todo ++ (kept ++ (left ++ x ∷ [])))
      left_basis =
          let b : IsBasis leq (S k) (x ∷ ((todo ++ (kept ++ left)) ++ [])) = rw (append_nil (todo ++ (kept ++ left))) climb.basis in
          let c = basis_within leq (S k) (todo ++ (kept ++ left)) [] x b in
          simp append_assoc at c

      made_ends : (t : A) → IsMember t made → S (suc k) t
      made_ends t m = go (h.from t m)
        where
          go : IsMember t raised ⊎ (IsTrue (leq x t) × leads x t) → S (suc k) t
          go (inl r) = climb.ends t r
          go (inr n) = (x, x_ends, n.0, n.1)

      made_above : (t : A) → IsMember t made → Below leq (left ++ x ∷ []) t
      made_above t m = go (h.from t m)
        where
          go : IsMember t raised ⊎ (IsTrue (leq x t) × leads x t) → Below leq (left ++ x ∷ []) t
          go (inl r) = let b = climb.above t r in (b.0, mem-left left _ b.0 b.1, b.2)
          go (inr n) = (x, mem-right left _ x (inl refl), n.0)

      left_goes : (y : A) → IsMember y left ⊎ IsMember y (x ∷ []) → S (suc k) y → ⊥
      left_goes y (inl m) = climb.goes y m
      left_goes y (inr (inl e)) = subst (λ (z : A). S (suc k) z → ⊥) (sym e) go_away
      left_goes y (inr (inr m)) = absurd m

      made_apart : (t y : A) → IsMember t made → IsMember y kept → IsTrue (apart leq t y)
      made_apart t y m n = apart_intro leq t y (λ l.
          let same : t ≡ y = (kept_least y n).least t (ends_fall is_value leq leads laws climb.monotone k t (made_ends t m)) l in
          let self : IsTrue (leq y y) = laws.reflexive y (all_values y (climb.basis.elements y (kept_in y n))) in
          h.free t y m n (subst (λ (z : A). IsTrue (leq y z)) (sym same) self))
          (h.free t y m n)

      left_covers : (y t : A) → IsMember y left ⊎ IsMember y (x ∷ []) → IsTrue (leq y t) → leads y t → Below leq (made ++ kept) t
      left_covers y t (inl m) l d =
          let b = climb.covers y t m l d in
          go b.0 b.2 (mem-split raised kept b.0 b.1)
        where
          t_value : IsTrue (is_value t)
          t_value = climb.monotone.states y t (all_values y (climb.basis.elements y (inr (mem-right todo _ y (mem-right kept left y m))))) d

          by : (v : A) → IsMember v made ⊎ IsMember v kept → IsTrue (is_value v)
          by v (inl n) = raised_value v (made_ends v n)
          by v (inr n) = all_values v (climb.basis.elements v (kept_in v n))

          go : (w : A) → IsTrue (leq w t) → IsMember w raised ⊎ IsMember w kept → Below leq (made ++ kept) t
          go w wt (inl r) =
              let c = h.covers_old w r in
              (c.0, c.1, laws.transitive c.0 w t (by c.0 (mem-split made kept c.0 c.1)) (raised_value w (climb.ends w r)) t_value c.2 wt)
          go w wt (inr s) = (w, mem-right made _ w s, wt)
      left_covers y t (inr (inl e)) l d = h.covers_new t (subst (λ (z : A). IsTrue (leq z t)) e l, subst (λ (z : A). leads z t) e d)
      left_covers y t (inr (inr m)) l d = absurd m

      pub leaves : IsClimb is_value leq leads k todo kept made (left ++ x ∷ [])
      leaves = record {
        monotone = climb.monotone;
        basis = left_basis;
        stays = climb.stays;
        goes = λ y m. left_goes y (mem-split left (x ∷ []) y m);
        incomparable = incomparable-join leq made kept h.incomparable (incomparable-right leq raised kept climb.incomparable) made_apart;
        ends = made_ends;
        above = made_above;
        covers = λ y t m. left_covers y t (mem-split left (x ∷ []) y m);
        new = λ y m. climb.new y (inr m);
      }

    -- what the outcomes at x say
    module _ (outcomes : List A) (h : IsBasis leq (leads x) outcomes) where
      pub stays_of : IsTrue (list_any (λ o. leq o x) outcomes) → leads x x
      stays_of t =
          let o = any_elim (λ o. leq o x) outcomes t in
          climb.monotone.upward x o.0 x (all_values x x_ends) (all_values x x_ends) o.2 (h.elements o.0 o.1)

      pub goes_of : list_any (λ o. leq o x) outcomes ≡ false → S (suc k) x → ⊥
      goes_of e s =
          let b = h.complete x (least_steps_to_itself is_value leq leads k x x_least s) in
          none_elim (λ o. leq o x) outcomes b.0 e b.1 b.2

      pub outcomes_values : IsTrue (list_all is_value outcomes)
      outcomes_values = all_intro is_value outcomes (λ o m. climb.monotone.states x o (all_values x x_ends) (h.elements o m))

  -- nothing is left to ask
  module _ (k : ℕ) (kept raised left : List A) (climb : IsClimb is_value leq leads k [] kept raised left) where
    values_at : (j : ℕ) (t : A) → S j t → IsTrue (is_value t)
    values_at = ends_values is_value leq leads laws climb.monotone

    next_basis : IsBasis leq (S (suc k)) (raised ++ kept)
    next_basis = record { elements = λ t m. element t (mem-split raised kept t m); incomparable = climb.incomparable; complete = complete }
      where
        element : (t : A) → IsMember t raised ⊎ IsMember t kept → S (suc k) t
        element t (inl m) = climb.ends t m
        element t (inr m) = self_stays is_value leq leads laws climb.monotone k t (climb.basis.elements t (mem-left kept left t m)) (climb.stays t m)

        from : (a t : A) → IsTrue (leq a t) → leads a t → IsMember a kept ⊎ IsMember a left → Below leq (raised ++ kept) t
        from a t l d (inl m) = (a, mem-right raised kept a m, l)
        from a t l d (inr m) = climb.covers a t m l d

        complete : (t : A) → S (suc k) t → Below leq (raised ++ kept) t
        complete t s =
            let a = ends_above is_value leq leads laws climb.monotone k (kept ++ left) climb.basis t s in
            from a.0 t a.2 a.3 (mem-split kept left a.0 a.1)

    least_now : (x : A) → IsMember x (kept ++ left) → IsLeastEnd is_value leq leads k x
    least_now = minimal_member is_value leq laws (S k) (kept ++ left) (values_at k) climb.basis

    least_next : (x : A) → IsMember x (raised ++ kept) → IsLeastEnd is_value leq leads (suc k) x
    least_next = minimal_member is_value leq laws (S (suc k)) (raised ++ kept) (values_at (suc k)) next_basis

    raised_new : (x : A) → IsMember x raised → IsLeastEnd is_value leq leads k x → ⊥
    raised_new x m h =
        let b = climb.above x m in
        let same : b.0 ≡ x = h.least b.0 (climb.basis.elements b.0 (mem-right kept left b.0 b.1)) b.2 in
        climb.goes b.0 b.1 (subst (λ (z : A). S (suc k) z) (sym same) (climb.ends x m))

    pub turns : IsClimb is_value leq leads (suc k) raised kept [] []
    turns = record {
      monotone = climb.monotone;
      basis = rw (append_nil kept) next_basis;
      stays = climb.stays;
      goes = λ x m. absurd m;
      incomparable = incomparable-right leq raised kept climb.incomparable;
      ends = λ t m. absurd m;
      above = λ t m. absurd m;
      covers = λ x t m. absurd m;
      new = raised_new;
    }

    kept_next : (x : A) → IsMember x kept → S (suc k) x
    kept_next x m = next_basis.elements x (mem-right raised kept x m)

    none_of : left ≡ [] → (y : A) → IsMember y left → ⊥
    none_of e y m = subst (λ (zs : List A). IsMember y zs) e m

    pub finishes : IsAscent is_value leq leads k kept raised left
    finishes = record {
      in_settled = λ x. ((λ m. (least_next x (mem-right raised kept x m), least_now x (mem-left kept left x m))), λ h. settled x h.1 h.0.element (mem-split kept left x (member_of_minimal is_value leq laws (S k) (kept ++ left) (values_at k) climb.basis x h.1)));
      in_fresh = λ x. ((λ m. (least_next x (mem-left raised kept x m), raised_new x m)), λ h. fresh x h.1 (mem-split raised kept x (member_of_minimal is_value leq laws (S (suc k)) (raised ++ kept) (values_at (suc k)) next_basis x h.0)));
      in_left = λ x. ((λ m. (least_now x (mem-right kept left x m), climb.goes x m)), λ h. gone x h.1 (mem-split kept left x (member_of_minimal is_value leq laws (S k) (kept ++ left) (values_at k) climb.basis x h.0)));
      stays = climb.stays;
      once = (climb.incomparable, incomparable-right leq kept left climb.basis.incomparable);
      steady = (steady, λ s. empty_of_none left (λ x m. climb.goes x m (s x (climb.basis.elements x (mem-right kept left x m)))));
      complete = next_basis.complete;
      none_fresh = λ e. empty_of_none raised (λ x m. let b = climb.above x m in none_of e b.0 b.1);
    }
      where
        settled : (x : A) → IsLeastEnd is_value leq leads k x → S (suc k) x → IsMember x kept ⊎ IsMember x left → IsMember x kept
        settled x h s (inl m) = m
        settled x h s (inr m) = absurd (climb.goes x m s)

        fresh : (x : A) → (IsLeastEnd is_value leq leads k x → ⊥) → IsMember x raised ⊎ IsMember x kept → IsMember x raised
        fresh x n (inl m) = m
        fresh x n (inr m) = absurd (n (least_now x (mem-left kept left x m)))

        gone : (x : A) → (S (suc k) x → ⊥) → IsMember x kept ⊎ IsMember x left → IsMember x left
        gone x n (inl m) = absurd (n (kept_next x m))
        gone x n (inr m) = m

        up : (t a : A) → S k t → IsTrue (leq a t) → (left ≡ []) → IsMember a kept ⊎ IsMember a left → S (suc k) t
        up t a s l e (inl m) = ends_upward is_value leq leads laws climb.monotone (suc k) a t (kept_next a m) (values_at k t s) l
        up t a s l e (inr m) = absurd (none_of e a m)

        steady : left ≡ [] → IsSteady is_value leq leads k
        steady e t s = let b = climb.basis.complete t s in up t b.0 s b.2 e (mem-split kept left b.0 b.1)
