-- What an answer finds, and what is raised then.
use Rattle.std.proofs.Common.{◌≡◌, ◌∙◌, refl, sym, subst, ℕ, suc, Bool, true, false, not, IsTrue, List, [], ◌∷◌, ◌++◌, filter, reverse, ◌⊎◌, inl, inr}
use Rattle.std.specs.List.{list_all, list_any}
use Rattle.order_core.specs.IncomparableLaws.{incomparable-left, incomparable-cross}
use Rattle.order_core.specs.Members.{IsMember}
use Rattle.order_core.specs.MemberLaws.{any_elim, none_elim, second, not_true, true_not, decide, all_elim, all_intro, mem-left, mem-right, mem-split, mem-filter, filter-mem}
use Rattle.order_core.specs.Order.{IsOrder, are_incomparable}
use Rattle.antichain.specs.Basis.{Below, IsBasis, IsRaise}
use Rattle.antichain.specs.Covers.{IsCover}
use Rattle.antichain.specs.InsertedLaws.{all_apart, all_from, all_still, all_below}
use Rattle.antichain.specs.ListLaws.{incomparable-filter}
use Rattle.antichain.specs.Minima.{inserted_all}
use Rattle.kleene_loop.specs.Ascent.{AreFound, IsClimb, IsRaisedBy}
use Rattle.kleene_loop.proofs.Ends.{ends_values}
use Rattle.kleene_loop.proofs.Reversed.{mem-reverse, reverse-mem}

module _ {A : Type 0} (is_value : A → Bool) (leq : A → A → Bool) (leads : A → A → Type 0) (laws : IsOrder is_value leq)
    (k : ℕ) (todo kept raised left : List A) (climb : IsClimb is_value leq leads k todo kept raised left) (x : A) (x_is : IsTrue (is_value x)) where
  raised_are : IsTrue (list_all is_value raised)
  raised_are = all_intro is_value raised (λ t m. ends_values is_value leq leads laws climb.monotone (suc k) t (climb.ends t m))

  raised_apart : IsTrue (are_incomparable leq raised)
  raised_apart = incomparable-left leq raised kept climb.incomparable

  -- no raised point is above a kept one
  raised_free : (t y : A) → IsMember t raised → IsMember y kept → IsTrue (leq y t) → ⊥
  raised_free t y m n l =
      let e : leq y t ≡ false = not_true (leq y t) (second (not (leq t y)) _ (incomparable-cross leq raised kept t y climb.incomparable m n)) in
      true_false (sym l) e
    where
      true_false : {b : Bool} → true ≡ b → b ≡ false → ⊥
      true_false p q = cc

  kept_are : (y : A) → IsMember y kept → IsTrue (is_value y)
  kept_are y m = ends_values is_value leq leads laws climb.monotone k y (climb.basis.elements y (mem-right todo _ y (mem-left kept left y m)))

  -- ---- what is found

  module _ (outcomes : List A) (basis : IsBasis leq (leads x) outcomes) where
    -- a value above x and an outcome is an outcome above x
    raise_leads : (t : A) → IsRaise is_value leq x outcomes t → IsTrue (leq x t) × leads x t
    raise_leads t r = (r.above, climb.monotone.upward x r.below.0 t x_is r.value r.below.2 (basis.elements r.below.0 r.below.1))

    leads_raise : (t : A) → IsTrue (leq x t) → leads x t → IsRaise is_value leq x outcomes t
    leads_raise t l d = record { value = climb.monotone.states x t x_is d; above = l; below = basis.complete t d }

    pub found_of : (found : List A) → IsCover leq (IsRaise is_value leq x outcomes) found → AreFound is_value leq leads x kept (filter (λ t. not (list_any (λ y. leq y t) kept)) found)
    found_of found h = record {
      values = all_intro is_value _ (λ t m. (h.elements t (in_found t m).0).value);
      above = λ t m. raise_leads t (h.elements t (in_found t m).0);
      free = λ t y m n l. none_elim (λ z. leq z t) kept y (not_true _ (in_found t m).1) n l;
      complete = λ t l d. complete t (leads_raise t l d);
    }
      where
        in_found : (t : A) → IsMember t (filter (λ t. not (list_any (λ y. leq y t) kept)) found) → IsMember t found × IsTrue (not (list_any (λ y. leq y t) kept))
        in_found t m = mem-filter (λ t. not (list_any (λ y. leq y t) kept)) found t m

        by : (t f : A) → IsTrue (is_value t) → IsMember f found → IsTrue (leq f t) → IsTrue (list_any (λ y. leq y f) kept) ⊎ (list_any (λ y. leq y f) kept ≡ false)
            → Below leq (filter (λ t. not (list_any (λ y. leq y t) kept)) found ++ kept) t
        by t f tv m l (inl h2) =
            let w = any_elim (λ y. leq y f) kept h2 in
            (w.0, mem-right (filter (λ t. not (list_any (λ y. leq y t) kept)) found) kept w.0 w.1, laws.transitive w.0 f t (kept_are w.0 w.1) (h.elements f m).value tv w.2 l)
        by t f tv m l (inr e) = (f, mem-left (filter (λ t. not (list_any (λ y. leq y t) kept)) found) kept f (filter-mem (λ t. not (list_any (λ y. leq y t) kept)) found f m (true_not _ e)), l)

        complete : (t : A) → IsRaise is_value leq x outcomes t → Below leq (filter (λ t. not (list_any (λ y. leq y t) kept)) found ++ kept) t
        complete t r = let f = h.complete t r in by t f.0 r.value f.1 f.2 (decide (list_any (λ y. leq y f.0) kept))

    -- what is raised by outcomes above x, is so by values above x and an outcome
    pub raised_by_bounds : (made : List A) → IsRaisedBy leq (λ t. IsTrue (leq x t) × leads x t) kept raised made → IsRaisedBy leq (IsRaise is_value leq x outcomes) kept raised made
    raised_by_bounds made h = record {
      incomparable = h.incomparable;
      from = λ t m. from t (h.from t m);
      free = h.free;
      covers_old = h.covers_old;
      covers_new = λ t r. h.covers_new t (raise_leads t r);
    }
      where
        from : (t : A) → IsMember t raised ⊎ (IsTrue (leq x t) × leads x t) → IsMember t raised ⊎ IsRaise is_value leq x outcomes t
        from t (inl m) = inl m
        from t (inr u) = inr (leads_raise t u.0 u.1)

    -- where x stays, what is above it goes
    pub raised_by_keeping : IsRaisedBy leq (IsRaise is_value leq x outcomes) (kept ++ x ∷ []) raised (filter (λ r. not (leq x r)) raised)
    raised_by_keeping = record {
      incomparable = incomparable-filter leq (λ r. not (leq x r)) raised raised_apart;
      from = λ t m. inl (still t m).0;
      free = λ t y m n l. free t y m (mem-split kept (x ∷ []) y n) l;
      covers_old = λ t m. covers t m (decide (leq x t));
      covers_new = λ t r. (x, x_in, r.above);
    }
      where
        still : (t : A) → IsMember t (filter (λ r. not (leq x r)) raised) → IsMember t raised × IsTrue (not (leq x t))
        still t m = mem-filter (λ r. not (leq x r)) raised t m

        x_in : IsMember x (filter (λ r. not (leq x r)) raised ++ (kept ++ x ∷ []))
        x_in = mem-right (filter (λ r. not (leq x r)) raised) _ x (mem-right kept (x ∷ []) x (inl refl))

        true_false : {b : Bool} → IsTrue b → b ≡ false → ⊥
        true_false p q = let z : true ≡ false = sym p ∙ q in cc

        free : (t y : A) → IsMember t (filter (λ r. not (leq x r)) raised) → IsMember y kept ⊎ IsMember y (x ∷ []) → IsTrue (leq y t) → ⊥
        free t y m (inl n) l = raised_free t y (still t m).0 n l
        free t y m (inr (inl e)) l = true_false (subst (λ (z : A). IsTrue (leq z t)) e l) (not_true (leq x t) (still t m).1)
        free t y m (inr (inr n)) l = absurd n

        covers : (t : A) → IsMember t raised → IsTrue (leq x t) ⊎ (leq x t ≡ false) → Below leq (filter (λ r. not (leq x r)) raised ++ (kept ++ x ∷ [])) t
        covers t m (inl l) = (x, x_in, l)
        covers t m (inr e) =
            let v = all_elim is_value raised t raised_are m in
            (t, mem-left (filter (λ r. not (leq x r)) raised) _ t (filter-mem (λ r. not (leq x r)) raised t m (true_not _ e)), laws.reflexive t v)

  -- ---- what is raised

  module _ (found : List A) (h : AreFound is_value leq leads x kept found) where
    new_are : IsTrue (list_all is_value (reverse found))
    new_are = all_intro is_value (reverse found) (λ t m. all_elim is_value found t h.values (mem-reverse found t m))

    made_from : (t : A) → IsMember t (inserted_all leq raised (reverse found)) → IsMember t (reverse found) ⊎ IsMember t raised
    made_from t m = all_from is_value leq laws (reverse found) raised new_are (raised_are, raised_apart) t m

    in_made : (t : A) → Below leq (inserted_all leq raised (reverse found)) t → Below leq (inserted_all leq raised (reverse found) ++ kept) t
    in_made t b = (b.0, mem-left (inserted_all leq raised (reverse found)) kept b.0 b.1, b.2)

    pub raised_by_found : IsRaisedBy leq (λ t. IsTrue (leq x t) × leads x t) kept raised (inserted_all leq raised (reverse found))
    raised_by_found = record {
      incomparable = (all_apart is_value leq laws (reverse found) raised new_are (raised_are, raised_apart)).1;
      from = λ t m. from t (made_from t m);
      free = λ t y m n. free t y (made_from t m) n;
      covers_old = λ t m. old t m;
      covers_new = λ t u. let b = h.complete t u.0 u.1 in new t b.0 (climb.monotone.states x t x_is u.1) b.2 (mem-split found kept b.0 b.1);
    }
      where
        from : (t : A) → IsMember t (reverse found) ⊎ IsMember t raised → IsMember t raised ⊎ (IsTrue (leq x t) × leads x t)
        from t (inl m) = inr (h.above t (mem-reverse found t m))
        from t (inr m) = inl m

        free : (t y : A) → IsMember t (reverse found) ⊎ IsMember t raised → IsMember y kept → IsTrue (leq y t) → ⊥
        free t y (inl m) n l = h.free t y (mem-reverse found t m) n l
        free t y (inr m) n l = raised_free t y m n l

        old : (t : A) → IsMember t raised → Below leq (inserted_all leq raised (reverse found) ++ kept) t
        old t m =
            let v = all_elim is_value raised t raised_are m in
            in_made t (all_still is_value leq laws (reverse found) raised new_are (raised_are, raised_apart) t v (t, m, laws.reflexive t v))

        new : (t b : A) → IsTrue (is_value t) → IsTrue (leq b t) → IsMember b found ⊎ IsMember b kept → Below leq (inserted_all leq raised (reverse found) ++ kept) t
        new t b tv l (inl m) =
            let w = all_below is_value leq laws (reverse found) raised new_are (raised_are, raised_apart) b (reverse-mem found b m) in
            in_made t (w.0, w.1, laws.transitive w.0 b t (made_value w.0 (made_from w.0 w.1)) (all_elim is_value found b h.values m) tv w.2 l)
          where
            made_value : (v : A) → IsMember v (reverse found) ⊎ IsMember v raised → IsTrue (is_value v)
            made_value v (inl n) = all_elim is_value (reverse found) v new_are n
            made_value v (inr n) = all_elim is_value raised v raised_are n
        new t b tv l (inr m) = (b, mem-right (inserted_all leq raised (reverse found)) kept b m, l)
