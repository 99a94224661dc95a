-- What a product's members are, and what it keeps of its lists.
use Rattle.std.proofs.Common.{◌≡◌, refl, sym, subst, Bool, true, false, ◌&&◌, not, IsTrue, List, [], ◌∷◌, map, inl, inr}
use Rattle.std.specs.List.{list_all, flat_map}
use Rattle.order_core.specs.IncomparableLaws.{incomparable-join}
use Rattle.order_core.specs.MemberLaws.{first, second, both, any_elim, any_intro, all_elim, all_intro, mem-map, map-mem, mem-flat_map, flat_map-mem}
use Rattle.order_core.specs.Members.{IsMember}
use Rattle.order_core.specs.Order.{IsLeast, AreBounds, apart, are_incomparable}
use Rattle.order_core.specs.Products.{IsPick}
use Rattle.order_core.specs.Tuple.{are_values, tuple_leq, product, AreAllLeast, AreAllBounds}

pub pick_of : {A : Type 0} (cs : List (List A)) (t : List A) → IsMember t (product cs) → IsPick t cs
pick_of [] t (inl e) = subst (λ z. IsPick z []) (sym e) tt
pick_of [] t (inr m) = absurd m
pick_of {A = A} (c ∷ cs) t m =
    let r = mem-flat_map (λ (x : A). map (λ tail. x ∷ tail) (product cs)) c t m in
    let s = mem-map (λ tail. r.0 ∷ tail) (product cs) t r.2 in
    subst (λ z. IsPick z (c ∷ cs)) (sym s.2) (r.1, pick_of cs s.0 s.1)

pub of_pick : {A : Type 0} (cs : List (List A)) (t : List A) → IsPick t cs → IsMember t (product cs)
of_pick [] [] h = inl refl
of_pick [] (x ∷ t) h = absurd h
of_pick (c ∷ cs) [] h = absurd h
of_pick {A = A} (c ∷ cs) (x ∷ t) h =
    flat_map-mem (λ (y : A). map (λ tail. y ∷ tail) (product cs)) c x (x ∷ t) h.0 (map-mem (λ tail. x ∷ tail) (product cs) t (of_pick cs t h.1))

not_left : (a b : Bool) → IsTrue (not a) → IsTrue (not (a && b))
not_left true b h = absurd (cc)
not_left false b h = refl

not_right : (a b : Bool) → IsTrue (not b) → IsTrue (not (a && b))
not_right true b h = h
not_right false b h = refl

module _ {P A : Type 0} (is_value : P → A → Bool) where
  pub pick_values : (ps : List P) (cs : List (List A)) (t : List A) → IsTrue (are_values (map (λ p. list_all (is_value p)) ps) cs) → IsPick t cs → IsTrue (are_values (map is_value ps) t)
  pick_values [] [] [] h k = refl
  pick_values (p ∷ ps) (c ∷ cs) (x ∷ t) h k = both _ _ (all_elim (is_value p) c x (first _ _ h) k.0) (pick_values ps cs t (second (list_all (is_value p) c) _ h) k.1)
  pick_values [] [] (x ∷ t) h k = absurd k
  pick_values [] (c ∷ cs) t h k = absurd (cc)
  pick_values (p ∷ ps) [] t h k = absurd (cc)
  pick_values (p ∷ ps) (c ∷ cs) [] h k = absurd k

module _ {A : Type 0} (leq : A → A → Bool) (leqs : List (A → A → Bool)) where
  apart_heads : (x y : A) (t u : List A) → IsTrue (apart leq x y) → IsTrue (apart (tuple_leq (leq ∷ leqs)) (x ∷ t) (y ∷ u))
  apart_heads x y t u h = both _ _ (not_left (leq x y) _ (first _ _ h)) (not_left (leq y x) _ (second (not (leq x y)) _ h))

  apart_tails : (x y : A) (t u : List A) → IsTrue (apart (tuple_leq leqs) t u) → IsTrue (apart (tuple_leq (leq ∷ leqs)) (x ∷ t) (y ∷ u))
  apart_tails x y t u h = both _ _ (not_right (leq x y) _ (first _ _ h)) (not_right (leq y x) _ (second (not (tuple_leq leqs t u)) _ h))

  one_head : (x : A) (ts : List (List A)) → IsTrue (are_incomparable (tuple_leq leqs) ts) → IsTrue (are_incomparable (tuple_leq (leq ∷ leqs)) (map (λ tail. x ∷ tail) ts))
  one_head x [] h = refl
  one_head x (t ∷ ts) h = both _ _
      (all_intro (apart (tuple_leq (leq ∷ leqs)) (x ∷ t)) (map (λ tail. x ∷ tail) ts) (λ w m. from (first _ _ h) w (mem-map (λ tail. x ∷ tail) ts w m)))
      (one_head x ts (second (list_all (apart (tuple_leq leqs) t) ts) _ h))
    where
      from : IsTrue (list_all (apart (tuple_leq leqs) t) ts) → (w : List A) → (u : List A) × IsMember u ts × (w ≡ x ∷ u) → IsTrue (apart (tuple_leq (leq ∷ leqs)) (x ∷ t) w)
      from a w r = subst (λ z. IsTrue (apart (tuple_leq (leq ∷ leqs)) (x ∷ t) z)) (sym r.2) (apart_tails x x t r.0 (all_elim (apart (tuple_leq leqs) t) ts r.0 a r.1))

  pub all_heads : (xs : List A) (ts : List (List A)) → IsTrue (are_incomparable leq xs) → IsTrue (are_incomparable (tuple_leq leqs) ts)
      → IsTrue (are_incomparable (tuple_leq (leq ∷ leqs)) (flat_map (λ x. map (λ tail. x ∷ tail) ts) xs))
  all_heads [] ts h k = refl
  all_heads (x ∷ xs) ts h k =
      incomparable-join (tuple_leq (leq ∷ leqs)) (map (λ tail. x ∷ tail) ts) (flat_map (λ y. map (λ tail. y ∷ tail) ts) xs)
      (one_head x ts k) (all_heads xs ts (second (list_all (apart leq x) xs) _ h) k)
      (λ v w m n.
      let r = mem-map (λ tail. x ∷ tail) ts v m in
      let s = mem-flat_map (λ y. map (λ tail. y ∷ tail) ts) xs w n in
      let q = mem-map (λ tail. s.0 ∷ tail) ts w s.2 in
      let heads = apart_heads x s.0 r.0 q.0 (all_elim (apart leq x) xs s.0 (first _ _ h) s.1) in
      subst (λ z. IsTrue (apart (tuple_leq (leq ∷ leqs)) z w)) (sym r.2) (subst (λ z. IsTrue (apart (tuple_leq (leq ∷ leqs)) (x ∷ r.0) z)) (sym q.2) heads))

module _ {P A : Type 0} (leq : P → A → A → Bool) where
  pub product_incomparable : (ps : List P) (cs : List (List A)) → IsTrue (are_values (map (λ p. are_incomparable (leq p)) ps) cs) → IsTrue (are_incomparable (tuple_leq (map leq ps)) (product cs))
  product_incomparable [] [] h = refl
  product_incomparable [] (c ∷ cs) h = absurd (cc)
  product_incomparable (p ∷ ps) [] h = absurd (cc)
  product_incomparable (p ∷ ps) (c ∷ cs) h =
      all_heads (leq p) (map leq ps) c (product cs) (first _ _ h) (product_incomparable ps cs (second (are_incomparable (leq p) c) _ h))

-- The least tuples are the product of the parts' least items.
module _ {P A : Type 0} (is_value : P → A → Bool) (leq : P → A → A → Bool) where
  pub least_values : (ps : List P) (cs : List (List A)) → AreAllLeast is_value leq ps cs → IsTrue (are_values (map (λ p. list_all (is_value p)) ps) cs)
  least_values [] [] h = refl
  least_values [] (c ∷ cs) h = absurd h
  least_values (p ∷ ps) [] h = absurd h
  least_values (p ∷ ps) (c ∷ cs) h = both _ _ h.0.values (least_values ps cs h.1)

  least_incomparable : (ps : List P) (cs : List (List A)) → AreAllLeast is_value leq ps cs → IsTrue (are_values (map (λ p. are_incomparable (leq p)) ps) cs)
  least_incomparable [] [] h = refl
  least_incomparable [] (c ∷ cs) h = absurd h
  least_incomparable (p ∷ ps) [] h = absurd h
  least_incomparable (p ∷ ps) (c ∷ cs) h = both _ _ h.0.incomparable (least_incomparable ps cs h.1)

  least_below : (ps : List P) (cs : List (List A)) → AreAllLeast is_value leq ps cs → (xs : List A) → IsTrue (are_values (map is_value ps) xs)
      → (t : List A) × IsPick t cs × IsTrue (tuple_leq (map leq ps) t xs)
  least_below [] [] h [] v = ([], tt, refl)
  least_below (p ∷ ps) (c ∷ cs) h (x ∷ xs) v =
      let r = any_elim (λ y. leq p y x) c (h.0.complete x (first _ _ v)) in
      let s = least_below ps cs h.1 xs (second (is_value p x) _ v) in
      (r.0 ∷ s.0, (r.1, s.1), both _ _ r.2 s.2)
  least_below [] [] h (x ∷ xs) v = absurd (cc)
  least_below [] (c ∷ cs) h xs v = absurd h
  least_below (p ∷ ps) [] h xs v = absurd h
  least_below (p ∷ ps) (c ∷ cs) h [] v = absurd (cc)

  pub product_least : (ps : List P) (cs : List (List A)) → AreAllLeast is_value leq ps cs → IsLeast (are_values (map is_value ps)) (tuple_leq (map leq ps)) (product cs)
  product_least ps cs h = record {
    values = all_intro (are_values (map is_value ps)) (product cs) (λ t m. pick_values is_value ps cs t (least_values ps cs h) (pick_of cs t m));
    incomparable = product_incomparable leq ps cs (least_incomparable ps cs h);
    complete = λ x v. let r = least_below ps cs h x v in any_intro (λ y. tuple_leq (map leq ps) y x) (product cs) r.0 (of_pick cs r.0 r.1) r.2;
  }

-- The bounds of two tuples are the product of the parts' bounds.
module _ {P A : Type 0} (is_value : P → A → Bool) (leq : P → A → A → Bool) where
  pub bounds_values : (ps : List P) (xs ys : List A) (cs : List (List A)) → AreAllBounds is_value leq ps xs ys cs → IsTrue (are_values (map (λ p. list_all (is_value p)) ps) cs)
  bounds_values [] [] [] [] h = refl
  bounds_values (p ∷ ps) (x ∷ xs) (y ∷ ys) (c ∷ cs) h = both _ _ h.0.values (bounds_values ps xs ys cs h.1)
  bounds_values _ _ _ _ h = absurd h

  bounds_incomparable : (ps : List P) (xs ys : List A) (cs : List (List A)) → AreAllBounds is_value leq ps xs ys cs → IsTrue (are_values (map (λ p. are_incomparable (leq p)) ps) cs)
  bounds_incomparable [] [] [] [] h = refl
  bounds_incomparable (p ∷ ps) (x ∷ xs) (y ∷ ys) (c ∷ cs) h = both _ _ h.0.incomparable (bounds_incomparable ps xs ys cs h.1)
  bounds_incomparable _ _ _ _ h = absurd h

  bounds_above : (ps : List P) (xs ys : List A) (cs : List (List A)) → AreAllBounds is_value leq ps xs ys cs → (t : List A) → IsPick t cs
      → IsTrue (tuple_leq (map leq ps) xs t) × IsTrue (tuple_leq (map leq ps) ys t)
  bounds_above [] [] [] [] h [] k = (refl, refl)
  bounds_above [] [] [] [] h (z ∷ t) k = absurd k
  bounds_above (p ∷ ps) (x ∷ xs) (y ∷ ys) (c ∷ cs) h [] k = absurd k
  bounds_above (p ∷ ps) (x ∷ xs) (y ∷ ys) (c ∷ cs) h (z ∷ t) k =
      let here = all_elim (λ w. leq p x w && leq p y w) c z h.0.above k.0 in
      let rest = bounds_above ps xs ys cs h.1 t k.1 in
      (both _ _ (first _ _ here) rest.0, both _ _ (second (leq p x z) _ here) rest.1)
  bounds_above _ _ _ _ h _ k = absurd h

  bounds_below : (ps : List P) (xs ys : List A) (cs : List (List A)) → AreAllBounds is_value leq ps xs ys cs → (zs : List A) → IsTrue (are_values (map is_value ps) zs)
      → IsTrue (tuple_leq (map leq ps) xs zs) → IsTrue (tuple_leq (map leq ps) ys zs) → (t : List A) × IsPick t cs × IsTrue (tuple_leq (map leq ps) t zs)
  bounds_below [] [] [] [] h [] v a b = ([], tt, refl)
  bounds_below [] [] [] [] h (z ∷ zs) v a b = absurd (cc)
  bounds_below (p ∷ ps) (x ∷ xs) (y ∷ ys) (c ∷ cs) h [] v a b = absurd (cc)
  bounds_below (p ∷ ps) (x ∷ xs) (y ∷ ys) (c ∷ cs) h (z ∷ zs) v a b =
      let r = any_elim (λ w. leq p w z) c (h.0.complete z (first _ _ v) (first _ _ a) (first _ _ b)) in
      let s = bounds_below ps xs ys cs h.1 zs (second (is_value p z) _ v) (second (leq p x z) _ a) (second (leq p y z) _ b) in
      (r.0 ∷ s.0, (r.1, s.1), both _ _ r.2 s.2)
  bounds_below _ _ _ _ h _ v a b = absurd h

  pub product_bounds : (ps : List P) (xs ys : List A) (cs : List (List A)) → AreAllBounds is_value leq ps xs ys cs
      → AreBounds (are_values (map is_value ps)) (tuple_leq (map leq ps)) xs ys (product cs)
  product_bounds ps xs ys cs h = record {
    values = all_intro (are_values (map is_value ps)) (product cs) (λ t m. pick_values is_value ps cs t (bounds_values ps xs ys cs h) (pick_of cs t m));
    incomparable = product_incomparable leq ps cs (bounds_incomparable ps xs ys cs h);
    above = all_intro (λ t. tuple_leq (map leq ps) xs t && tuple_leq (map leq ps) ys t) (product cs)
        (λ t m. let r = bounds_above ps xs ys cs h t (pick_of cs t m) in both _ _ r.0 r.1);
    complete = λ z v a b. let r = bounds_below ps xs ys cs h z v a b in any_intro (λ t. tuple_leq (map leq ps) t z) (product cs) r.0 (of_pick cs r.0 r.1) r.2;
  }
