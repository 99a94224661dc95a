-- Of rows of numbers in print order, no one is strictly below one that stands before it. Of rows of two numbers, each hands on.
use Rattle.std.proofs.Common.{◌≡◌, refl, sym, ap, subst, ℕ, ◌<◌, Bool, true, false, ◌&&◌, ◌||◌, length, ◌∙◌, not, nat_eq, nat_le, IsTrue, List, [], ◌∷◌, arith, eqb-true, ◌⊎◌, inl, inr}
use Rattle.std.proofs.lemmas.Bool.Decides.{nat_tests}
use Rattle.std.specs.Cmp.{nat_cmp_is}
use Rattle.std.specs.List.{list_all}
use Rattle.std.specs.Ordering.{is_lt, nat_cmp, ordering_then}
use Rattle.std.specs.declared.cmp.Ordering.{Ordering}
use Rattle.std.specs.declared.cmp.Ordering.TheVariants.{Less, Equal, Greater}
use Rattle.order_core.specs.Members.{IsMember}
use Rattle.order_core.specs.MemberLaws.{first, second, both, all_elim, all_intro, decide, not_both}
use Rattle.antichain.specs.Minima.{is_less, are_in_order, hands_on, each_hands_on}
use Rattle.value_type.specs.declared.kind.Kind.{Kind, out-Kind}
use Rattle.value_type.specs.declared.kind.Kind.TheFolds.{fold_out-Kind}
use Rattle.value_type.specs.declared.kind.Kind.TheOpen.{Kind-F}
use Rattle.value_type.specs.declared.poset.Types.{Types}
use Rattle.value_type.specs.declared.value.Value.{Value, out-Value, map-Value}
use Rattle.value_type.specs.declared.value.Value.TheOpen.{Value-F}
use Rattle.value_type.specs.Fits.{Layer, fits, is_number, row_fits}
use Rattle.value_type.specs.KindOrderLaws.{kind_laws}
use Rattle.value_type.specs.Leq.{leq, number_leq, row_leq}
use Rattle.value_type.specs.PrintLaws.{by_layers, row_same}
use Rattle.value_type.specs.PrintOrder.{cmp_step, value_cmp, row_cmp, is_before}
use Rattle.catalogue_solve.specs.Numbers.{is_number_layer, are_numbers}
use Rattle.catalogue_solve.proofs.Rising.{are_sorted}

-- The first is printed before the second or is the same.
abbrev IsNotAfter : Ordering → Type 0
IsNotAfter o = (o ≡ Less) ⊎ (o ≡ Equal)

counts : (a b : ℕ) → IsTrue (nat_le a b) → IsNotAfter (nat_cmp a b)
counts a b h = go (nat_eq a b) refl
  where
    go : (t : Bool) → nat_eq a b ≡ t → IsNotAfter (nat_cmp a b)
    go true e = inr (sym (nat_cmp_is a b Equal (eqb-true a b e)))
    go false e = let below : a < b = grind (arith, nat_tests) in inl (sym (nat_cmp_is a b Less below))

layers : (l m : Layer) → IsTrue (number_leq l m) → IsNotAfter (cmp_step (map-Value Value (Value → Ordering) value_cmp l) m)
layers (Value-F.Num a) (Value-F.Num b) h = counts a b h
layers (Value-F.Num a) Value-F.Top h = inl refl
layers Value-F.Top Value-F.Top h = inr refl
layers _ _ h = absurd (cc)

module _ (t : Types) where
  leq_numbers : (k : Kind) (y x : Value) → IsTrue (is_number_layer (out-Kind k)) → leq t k y x ≡ number_leq (out-Value y) (out-Value x)
  leq_numbers k y x h = go (out-Kind k) refl h
    where
      go : (l : Kind-F Kind) → out-Kind k ≡ l → IsTrue (is_number_layer l) → leq t k y x ≡ number_leq (out-Value y) (out-Value x)
      go (Kind-F.Num dim) e n = rw (fold_out-Kind, e) refl
      go _ e n = absurd (cc)

  values : (k : Kind) (y x : Value) → IsTrue (is_number_layer (out-Kind k)) → IsTrue (leq t k y x) → IsNotAfter (value_cmp y x)
  values k y x n l = rw (by_layers y x) (layers (out-Value y) (out-Value x) (rw (leq_numbers k y x n) at l))

  rows : (kinds : List Kind) (ys xs : List Value) → IsTrue (are_numbers kinds) → IsTrue (row_leq t kinds ys xs) → IsNotAfter (row_cmp ys xs)
  rows [] [] [] n l = inr refl
  rows (k ∷ kinds) (y ∷ ys) (x ∷ xs) n l =
      go (value_cmp y x) (values k y x (first _ _ n) (first _ _ l)) (rows kinds ys xs (second (is_number_layer (out-Kind k)) _ n) (second (leq t k y x) _ l))
    where
      go : (o : Ordering) → IsNotAfter o → IsNotAfter (row_cmp ys xs) → IsNotAfter (ordering_then o (row_cmp ys xs))
      go Less h ih = inl refl
      go Equal h ih = ih
      go Greater (inl e) ih = absurd (cc)
      go Greater (inr e) ih = absurd (cc)
  rows _ _ _ n l = absurd (cc)

  module _ (kinds : List Kind) (numbers : IsTrue (are_numbers kinds)) where
    not_less : (x y : List Value) → IsTrue (row_leq t kinds x x) → IsTrue (not (is_before y x)) → IsTrue (not (is_less (row_leq t kinds) y x))
    not_less x y self h = go (decide (row_leq t kinds y x))
      where
        same : IsNotAfter (row_cmp y x) → IsTrue (row_leq t kinds x y)
        same (inl e) = absurd (not_both (is_before y x) h (ap is_lt e))
        same (inr e) = subst (λ (z : List Value). IsTrue (row_leq t kinds x z)) (sym (row_same y x e)) self

        go : IsTrue (row_leq t kinds y x) ⊎ (row_leq t kinds y x ≡ false) → IsTrue (not (is_less (row_leq t kinds) y x))
        go (inr e) = rw e refl
        go (inl l) = let back : row_leq t kinds x y ≡ true = same (rows kinds y x numbers l) in rw (l, back) refl

    pub numbers_in_order : (xs : List (List Value)) → ((x : List Value) → IsMember x xs → IsTrue (row_leq t kinds x x)) → IsTrue (are_sorted xs) → IsTrue (are_in_order (row_leq t kinds) xs)
    numbers_in_order [] r h = refl
    numbers_in_order (x ∷ xs) r h = both _ _
        (all_intro (λ y. not (is_less (row_leq t kinds) y x)) xs (λ y m. not_less x y (r x (inl refl)) (all_elim (λ z. not (is_before z x)) xs y (first _ _ h) m)))
        (numbers_in_order xs (λ y m. r y (inr m)) (second (list_all (λ z. not (is_before z x)) xs) _ h))

-- ---- rows of two numbers

-- Of two numbers, one is at most the other, and what is not is printed first.
number_total : (l m : Layer) → IsTrue (is_number l) → IsTrue (is_number m) → IsTrue (number_leq l m) ⊎ IsTrue (number_leq m l)
number_total (Value-F.Num a) (Value-F.Num b) h k = go (nat_le a b) refl
  where
    go : (s : Bool) → nat_le a b ≡ s → IsTrue (nat_le a b) ⊎ IsTrue (nat_le b a)
    go true e = inl e
    go false e = inr (grind (arith, nat_tests))
number_total (Value-F.Num a) Value-F.Top h k = inl refl
number_total Value-F.Top (Value-F.Num b) h k = inr refl
number_total Value-F.Top Value-F.Top h k = inl refl
number_total _ _ h k = absurd (cc)

number_first : (l m : Layer) → IsTrue (is_number l) → IsTrue (is_number m) → IsTrue (number_leq l m) ⊎ (cmp_step (map-Value Value (Value → Ordering) value_cmp m) l ≡ Less)
number_first (Value-F.Num a) (Value-F.Num b) h k = go (nat_le a b) refl
  where
    go : (s : Bool) → nat_le a b ≡ s → IsTrue (nat_le a b) ⊎ (nat_cmp b a ≡ Less)
    go true e = inl e
    go false e = let below : b < a = grind (arith, nat_tests) in inr (sym (nat_cmp_is b a Less below))
number_first (Value-F.Num a) Value-F.Top h k = inl refl
number_first Value-F.Top (Value-F.Num b) h k = inr refl
number_first Value-F.Top Value-F.Top h k = inl refl
number_first _ _ h k = absurd (cc)

module _ (t : Types) (j k : Kind) (numbers : IsTrue (are_numbers (j ∷ k ∷ []))) where
  abbrev Fits : List Value → Type 0
  Fits row = IsTrue (row_fits t (j ∷ k ∷ []) row)

  abbrev Leq : List Value → List Value → Bool
  Leq = row_leq t (j ∷ k ∷ [])

  -- a row of two numbers
  record IsPair (row : List Value) : Type 0 where
    one : Value
    two : Value
    is : row ≡ one ∷ two ∷ []
    one_fits : IsTrue (fits t j one)
    two_fits : IsTrue (fits t k two)

  pair_of : (row : List Value) → Fits row → IsPair row
  pair_of (v ∷ w ∷ []) h = record { one = v; two = w; is = refl; one_fits = first _ _ h; two_fits = first _ _ (second (fits t j v) _ h) }
  pair_of [] h = absurd (cc)
  pair_of (v ∷ []) h = absurd (let no : fits t j v && false ≡ true = h in never (fits t j v) no)
    where
      never : (b : Bool) → b && false ≡ true → ⊥
      never true e = cc
      never false e = cc
  pair_of (v ∷ w ∷ u ∷ rest) h = absurd (let no : fits t j v && (fits t k w && false) ≡ true = h in never (fits t j v) (fits t k w) no)
    where
      never : (b c : Bool) → b && (c && false) ≡ true → ⊥
      never true true e = cc
      never true false e = cc
      never false c e = cc

  is_count : (i : Kind) (v : Value) → IsTrue (is_number_layer (out-Kind i)) → IsTrue (fits t i v) → IsTrue (is_number (out-Value v))
  is_count i v n h = go (out-Kind i) refl n
    where
      go : (l : Kind-F Kind) → out-Kind i ≡ l → IsTrue (is_number_layer l) → IsTrue (is_number (out-Value v))
      go (Kind-F.Num dim) e m = let at : fits t i v ≡ is_number (out-Value v) = rw (fold_out-Kind, e) refl in sym at ∙ h
      go _ e m = absurd (cc)

  -- Of two rows that are not printed the other way round, the first number of the first is at most that of the second.
  heads : (a b : List Value) (p : IsPair a) (q : IsPair b) → IsTrue (not (is_before b a)) → IsTrue (leq t j p.one q.one)
  heads a b p q h =
      go (number_first (out-Value p.one) (out-Value q.one) (is_count j p.one (first _ _ numbers) p.one_fits) (is_count j q.one (first _ _ numbers) q.one_fits))
    where
      before : value_cmp q.one p.one ≡ Less → IsTrue (is_before b a)
      before e = rw (p.is, q.is, e) refl

      go : IsTrue (number_leq (out-Value p.one) (out-Value q.one)) ⊎ (cmp_step (map-Value Value (Value → Ordering) value_cmp (out-Value q.one)) (out-Value p.one) ≡ Less) → IsTrue (leq t j p.one q.one)
      go (inl l) = leq_numbers t j p.one q.one (first _ _ numbers) ∙ l
      go (inr e) = absurd (not_both (is_before b a) h (before (by_layers q.one p.one ∙ e)))

  triple : (a b x : List Value) → Fits a → Fits b → Fits x → IsTrue (not (is_before b a)) → IsTrue (not (is_before x b)) → IsTrue (not (Leq a x) || Leq a b || Leq b x)
  triple a b x fa fb fx ab bx = go (decide (Leq a x)) (seconds p.two q.two p.two_fits q.two_fits)
    where
      p : IsPair a
      p = pair_of a fa

      q : IsPair b
      q = pair_of b fb

      r : IsPair x
      r = pair_of x fx

      counted : IsTrue (is_number_layer (out-Kind k))
      counted = first (is_number_layer (out-Kind k)) true (second (is_number_layer (out-Kind j)) (is_number_layer (out-Kind k) && true) numbers)

      seconds : (v w : Value) → IsTrue (fits t k v) → IsTrue (fits t k w) → IsTrue (leq t k v w) ⊎ IsTrue (leq t k w v)
      seconds v w fv fw = rw (leq_numbers t k v w counted, leq_numbers t k w v counted) (number_total (out-Value v) (out-Value w) (is_count k v counted fv) (is_count k w counted fw))

      join : (c d : List Value) (m : IsPair c) (n : IsPair d) → IsTrue (leq t j m.one n.one) → IsTrue (leq t k m.two n.two) → IsTrue (Leq c d)
      join c d m n u v = rw (m.is, n.is) (both (leq t j m.one n.one) (leq t k m.two n.two && true) u (both (leq t k m.two n.two) true v refl))

      second_leq : IsTrue (Leq a x) → IsTrue (leq t k p.two r.two)
      second_leq l = let at : IsTrue (Leq (p.one ∷ p.two ∷ []) (r.one ∷ r.two ∷ [])) = rw (p.is, r.is) at l in first (leq t k p.two r.two) true (second (leq t j p.one r.one) (leq t k p.two r.two && true) at)

      middle : (u v w : Bool) → IsTrue v → IsTrue (u || v || w)
      middle true true w h = refl
      middle false true w h = refl
      middle u false w h = absurd (cc)

      end : (u v w : Bool) → IsTrue w → IsTrue (u || v || w)
      end true true true h = refl
      end true false true h = refl
      end false true true h = refl
      end false false true h = refl
      end u v false h = absurd (cc)

      go : IsTrue (Leq a x) ⊎ (Leq a x ≡ false) → IsTrue (leq t k p.two q.two) ⊎ IsTrue (leq t k q.two p.two) → IsTrue (not (Leq a x) || Leq a b || Leq b x)
      go (inr e) s = rw e refl
      go (inl l) (inl s) = middle (not (Leq a x)) (Leq a b) (Leq b x) (join a b p q (heads a b p q ab) s)
      go (inl l) (inr s) = end (not (Leq a x)) (Leq a b) (Leq b x) (join b x q r (heads b x q r bx) ((kind_laws t k).transitive q.two p.two r.two q.two_fits p.two_fits r.two_fits s (second_leq l)))

  after : (a : List Value) (xs : List (List Value)) → Fits a → IsTrue (list_all (row_fits t (j ∷ k ∷ [])) xs) → IsTrue (list_all (λ z. not (is_before z a)) xs) → IsTrue (are_sorted xs) → IsTrue (hands_on Leq a xs)
  after a [] fa f h s = refl
  after a (b ∷ xs) fa f h s = both _ _
      (all_intro (λ x. not (Leq a x) || Leq a b || Leq b x) xs (λ x m. triple a b x fa (first _ _ f) (all_elim (row_fits t (j ∷ k ∷ [])) xs x (second (row_fits t (j ∷ k ∷ []) b) _ f) m)
      (first _ _ h) (all_elim (λ z. not (is_before z b)) xs x (first _ _ s) m)))
      (after a xs fa (second (row_fits t (j ∷ k ∷ []) b) _ f) (second (not (is_before b a)) _ h) (second (list_all (λ z. not (is_before z b)) xs) _ s))

  pairs : (xs : List (List Value)) → IsTrue (list_all (row_fits t (j ∷ k ∷ [])) xs) → IsTrue (are_sorted xs) → IsTrue (each_hands_on Leq xs)
  pairs [] f s = refl
  pairs (a ∷ xs) f s = both _ _
      (after a xs (first _ _ f) (second (row_fits t (j ∷ k ∷ []) a) _ f) (first _ _ s) (second (list_all (λ z. not (is_before z a)) xs) _ s))
      (pairs xs (second (row_fits t (j ∷ k ∷ []) a) _ f) (second (list_all (λ z. not (is_before z a)) xs) _ s))

-- Of rows of two numbers in print order, each hands on.
pub pairs_hand_on : (t : Types) (kinds : List Kind) (xs : List (List Value)) → length kinds ≡ 2 → IsTrue (are_numbers kinds) → IsTrue (list_all (row_fits t kinds) xs) → IsTrue (are_sorted xs) → IsTrue (each_hands_on (row_leq t kinds) xs)
pairs_hand_on t (j ∷ k ∷ []) xs two n f s = pairs t j k n xs f s
pairs_hand_on t [] xs two n f s = absurd (omega arith)
pairs_hand_on t (j ∷ []) xs two n f s = absurd (omega arith)
pairs_hand_on t (j ∷ k ∷ i ∷ kinds) xs two n f s = absurd (omega arith)
