-- By reverse inclusion, the upper sets of an order are in order.
use Rattle.std.specs.Prelude.{◌≡◌, ◌+◌, ◌≤◌, ℕ, Bool, nat_le, IsTrue, List, [], ◌∷◌}
use Rattle.std.specs.List.{list_all}
use Rattle.std.proofs.Common.{refl, sym, arith, inl, inr, subst}
use Rattle.std.proofs.lemmas.Bool.Decides.{nat_tests}
use Rattle.order_core.specs.Members.{IsMember}
use Rattle.order_core.specs.MemberLaws.{first, second, both, any_elim, any_intro, all_elim, all_intro}
use Rattle.order_core.specs.IncomparableLaws.{apart_intro, one_of}
use Rattle.order_core.specs.Order.{IsOrder, apart, are_incomparable}
use Rattle.order_core.specs.Finite.{is_element, is_below}
use Rattle.order_core.specs.Upper.{rise_from, is_upper, is_in, upper_leq}

pub at_least : (k w : ℕ) (xs : List ℕ) → IsTrue (rise_from k xs) → IsMember w xs → k ≤ w
at_least k w [] h m = absurd m
at_least k w (x ∷ xs) h (inl e) = let at : IsTrue (nat_le k x) = first _ _ h in grind (arith, nat_tests)
at_least k w (x ∷ xs) h (inr m) =
    let at : IsTrue (nat_le k x) = first _ _ h in
    let rest : x + 1 ≤ w = at_least (x + 1) w xs (second (nat_le k x) _ h) m in
    grind (arith, nat_tests)

-- Of a rising list's members, none is at most another where that makes them the same.
pub rising_incomparable : (leq : ℕ → ℕ → Bool) (k : ℕ) (xs : List ℕ) → IsTrue (rise_from k xs) → ((v w : ℕ) → IsMember v xs → IsMember w xs → IsTrue (leq v w) → v ≡ w)
    → IsTrue (are_incomparable leq xs)
rising_incomparable leq k [] h same = refl
rising_incomparable leq k (x ∷ xs) h same = both _ _
    (all_intro (apart leq x) xs (λ w m. apart_intro leq x w
    (λ l. let e = same x w (inl refl) (inr m) l in let a = at_least (x + 1) w xs (second (nat_le k x) _ h) m in omega arith)
    (λ l. let e = same w x (inr m) (inl refl) l in let a = at_least (x + 1) w xs (second (nat_le k x) _ h) m in omega arith)))
    (rising_incomparable leq (x + 1) xs (second (nat_le k x) _ h) (λ v w m n. same v w (inr m) (inr n)))

-- Two rising lists with the same members are the same.
pub rising_same : (k l : ℕ) (xs ys : List ℕ) → IsTrue (rise_from k xs) → IsTrue (rise_from l ys) → ((w : ℕ) → IsMember w xs → IsMember w ys) → ((w : ℕ) → IsMember w ys → IsMember w xs)
    → xs ≡ ys
rising_same k l [] [] h g into back = refl
rising_same k l [] (y ∷ ys) h g into back = absurd (back y (inl refl))
rising_same k l (x ∷ xs) [] h g into back = absurd (into x (inl refl))
rising_same k l (x ∷ xs) (y ∷ ys) h g into back =
    let same : x ≡ y = heads (into x (inl refl)) (back y (inl refl)) in
    let rest : xs ≡ ys = rising_same (x + 1) (y + 1) xs ys xs_rise ys_rise (onward same) (backward same) in
    cc
  where
    xs_rise : IsTrue (rise_from (x + 1) xs)
    xs_rise = second (nat_le k x) _ h

    ys_rise : IsTrue (rise_from (y + 1) ys)
    ys_rise = second (nat_le l y) _ g

    heads : IsMember x (y ∷ ys) → IsMember y (x ∷ xs) → x ≡ y
    heads (inl e) n = e
    heads (inr m) (inl e) = sym e
    heads (inr m) (inr n) = let a = at_least (y + 1) x ys ys_rise m in let b = at_least (x + 1) y xs xs_rise n in absurd (omega arith)

    tail_of : (a w : ℕ) (zs : List ℕ) → a + 1 ≤ w → IsMember w (a ∷ zs) → IsMember w zs
    tail_of a w zs l (inl e) = absurd (omega arith)
    tail_of a w zs l (inr m) = m

    onward : x ≡ y → (w : ℕ) → IsMember w xs → IsMember w ys
    onward same w m = let l = at_least (x + 1) w xs xs_rise m in tail_of y w ys (omega arith) (into w (inr m))

    backward : x ≡ y → (w : ℕ) → IsMember w ys → IsMember w xs
    backward same w m = let l = at_least (y + 1) w ys ys_rise m in tail_of x w xs (omega arith) (back w (inr m))

module _ (table : List ℕ) (laws : IsOrder (is_element table) (is_below table)) where
  elements : (xs : List ℕ) (w : ℕ) → IsTrue (is_upper table xs) → IsMember w xs → IsTrue (is_element table w)
  elements xs w h m = all_elim (is_element table) xs w (first _ _ h) m

  rising : (xs : List ℕ) → IsTrue (is_upper table xs) → IsTrue (rise_from 0 xs)
  rising xs h = first (rise_from 0 xs) _ (second (list_all (is_element table) xs) _ h)

  incomparable : (xs : List ℕ) → IsTrue (is_upper table xs) → IsTrue (are_incomparable (is_below table) xs)
  incomparable xs h = second (rise_from 0 xs) _ (second (list_all (is_element table) xs) _ h)

  reflexive : (xs : List ℕ) → IsTrue (is_upper table xs) → IsTrue (upper_leq table xs xs)
  reflexive xs h = all_intro (is_in table xs) xs (λ w m. any_intro (λ x. is_below table x w) xs w m (laws.reflexive w (elements xs w h m)))

  transitive : (xs ys zs : List ℕ) → IsTrue (is_upper table xs) → IsTrue (is_upper table ys) → IsTrue (is_upper table zs)
      → IsTrue (upper_leq table xs ys) → IsTrue (upper_leq table ys zs) → IsTrue (upper_leq table xs zs)
  transitive xs ys zs a b c p q = all_intro (is_in table xs) zs (λ w m.
      let r = any_elim (λ y. is_below table y w) ys (all_elim (is_in table ys) zs w q m) in
      let s = any_elim (λ x. is_below table x r.0) xs (all_elim (is_in table xs) ys r.0 p r.1) in
      any_intro (λ x. is_below table x w) xs s.0 s.1 (laws.transitive s.0 r.0 w (elements xs s.0 a s.1) (elements ys r.0 b r.1) (elements zs w c m) s.2 r.2))

  -- each member of the greater one is a member of the lesser one
  shared : (xs ys : List ℕ) → IsTrue (is_upper table xs) → IsTrue (is_upper table ys) → IsTrue (upper_leq table xs ys) → IsTrue (upper_leq table ys xs)
      → (w : ℕ) → IsMember w ys → IsMember w xs
  shared xs ys a b p q w m =
      let r = any_elim (λ x. is_below table x w) xs (all_elim (is_in table xs) ys w p m) in
      let s = any_elim (λ y. is_below table y r.0) ys (all_elim (is_in table ys) xs r.0 q r.1) in
      let x_is = elements xs r.0 a r.1 in
      let y_is = elements ys s.0 b s.1 in
      let w_is = elements ys w b m in
      let through = laws.transitive s.0 r.0 w y_is x_is w_is s.2 r.2 in
      let same : s.0 ≡ w = one_of (is_below table) ys s.0 w (incomparable ys b) s.1 m through in
      let back : IsTrue (is_below table w r.0) = subst (λ z. IsTrue (is_below table z r.0)) same s.2 in
      subst (λ z. IsMember z xs) (laws.antisymmetric r.0 w x_is w_is r.2 back) r.1

  pub upper_laws : IsOrder (is_upper table) (upper_leq table)
  upper_laws = record {
    reflexive = reflexive;
    transitive = transitive;
    antisymmetric = λ xs ys a b p q. rising_same 0 0 xs ys (rising xs a) (rising ys b) (shared ys xs b a q p) (shared xs ys a b p q);
  }
