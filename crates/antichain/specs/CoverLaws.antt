-- Covers that are put together from covers, one after another, side by side or joined, and their bases.
use Rattle.std.proofs.Common.{◌≡◌, ◌∙◌, ◌↔◌, refl, sym, subst, Bool, ◌&&◌, not, IsTrue, List, [], ◌∷◌, ◌++◌, ◌⊎◌, inl, inr, map}
use Rattle.std.specs.List.{list_all}
use Rattle.order_core.specs.Order.{IsOrder, apart, are_incomparable}
use Rattle.order_core.specs.Members.{IsMember}
use Rattle.order_core.specs.MemberLaws.{first, second, both, not_true, all_elim, all_intro, mem-left, mem-right, mem-split, mem-map, map-mem, mem-flat_map, flat_map-mem}
use Rattle.order_core.specs.IncomparableLaws.{apart_intro, incomparable-join}
use Rattle.antichain.specs.Basis.{Below, IsBasis}
use Rattle.antichain.specs.Covers.{IsCover, FromSome, Through, IsAboveImage, joins, JoinOf}

module _ {A : Type 0} (leq : A → A → Bool) where
  pub basis_is_cover : (U : A → Type 0) (xs : List A) → IsBasis leq U xs → IsCover leq U xs
  basis_is_cover U xs b = record { elements = b.elements; complete = b.complete }

  -- A cover of a set is one of each other set with the same elements, and so is a basis.
  pub same_cover : (U V : A → Type 0) (xs : List A) → ((x : A) → U x ↔ V x) → IsCover leq U xs → IsCover leq V xs
  same_cover U V xs same c = record { elements = λ x m. (same x).0 (c.elements x m); complete = λ y v. c.complete y ((same y).1 v) }

  pub same_basis : (U V : A → Type 0) (xs : List A) → ((x : A) → U x ↔ V x) → IsBasis leq U xs → IsBasis leq V xs
  same_basis U V xs same b = record { elements = λ x m. (same x).0 (b.elements x m); incomparable = b.incomparable; complete = λ y v. b.complete y ((same y).1 v) }

  -- The items of two covers cover the union of their sets.
  pub union_cover : (U V : A → Type 0) (xs ys : List A) → IsCover leq U xs → IsCover leq V ys → IsCover leq (λ t. U t ⊎ V t) (xs ++ ys)
  union_cover U V xs ys a b = record { elements = λ t m. element t (mem-split xs ys t m); complete = complete }
    where
      element : (t : A) → IsMember t xs ⊎ IsMember t ys → U t ⊎ V t
      element t (inl m) = inl (a.elements t m)
      element t (inr m) = inr (b.elements t m)

      complete : (t : A) → U t ⊎ V t → Below leq (xs ++ ys) t
      complete t (inl u) = let w = a.complete t u in (w.0, mem-left xs ys w.0 w.1, w.2)
      complete t (inr v) = let w = b.complete t v in (w.0, mem-right xs ys w.0 w.1, w.2)

  module _ (is_value : A → Bool) (laws : IsOrder is_value leq) (U : A → Type 0) (values : (x : A) → U x → IsTrue (is_value x)) (found : List A) (cover : IsCover leq U found) where
    -- The items of a cover are values.
    pub cover_values : IsTrue (list_all is_value found)
    cover_values = all_intro is_value found (λ x m. values x (cover.elements x m))

    -- The minimal items of a cover are a basis.
    pub cover_basis : (made : List A) → IsBasis leq (λ y. IsMember y found) made → IsBasis leq U made
    cover_basis made m = record { elements = λ x k. cover.elements x (m.elements x k); incomparable = m.incomparable; complete = complete }
      where
        complete : (y : A) → U y → Below leq made y
        complete y u =
            let f = cover.complete y u in
            let b = m.complete f.0 f.1 in
            (b.0, b.1, laws.transitive b.0 f.0 y (values b.0 (cover.elements b.0 (m.elements b.0 b.1))) (values f.0 (cover.elements f.0 f.1)) (values y u) b.2 f.2)

-- ---- covers side by side, and one after another

module _ {A B : Type 0} (leq : B → B → Bool) (V : A → B → Type 0) where
  -- Where there is no item, the empty list covers.
  pub none_covered : IsCover leq (FromSome V []) []
  none_covered = record { elements = λ y m. absurd m; complete = λ y f. absurd f.1 }

  -- The cover with what one more item gives.
  pub more_covered : (seen : List A) (x : A) (found ys : List B) → IsCover leq (FromSome V seen) found → IsCover leq (V x) ys → IsCover leq (FromSome V (seen ++ x ∷ [])) (found ++ ys)
  more_covered seen x found ys c b = record { elements = λ y m. element y (mem-split found ys y m); complete = λ y f. over y f (mem-split seen (x ∷ []) f.0 f.1) }
    where
      element : (y : B) → IsMember y found ⊎ IsMember y ys → FromSome V (seen ++ x ∷ []) y
      element y (inl m) = let f = c.elements y m in (f.0, mem-left seen (x ∷ []) f.0 f.1, f.2)
      element y (inr m) = (x, mem-right seen (x ∷ []) x (inl refl), b.elements y m)

      over : (y : B) → (f : FromSome V (seen ++ x ∷ []) y) → IsMember f.0 seen ⊎ IsMember f.0 (x ∷ []) → Below leq (found ++ ys) y
      over y f (inl m) = let w = c.complete y (f.0, m, f.2) in (w.0, mem-left found ys w.0 w.1, w.2)
      over y f (inr (inl e)) = let w = b.complete y (subst (λ (z : A). V z y) e f.2) in (w.0, mem-right found ys w.0 w.1, w.2)
      over y f (inr (inr m)) = absurd m

  -- What a cover reaches covers all that its set reaches, where a lesser element reaches what a greater one does.
  pub reached : (leq_a : A → A → Bool) (U : A → Type 0) (xs : List A) (found : List B)
      → ((x z : A) (y : B) → U x → U z → IsTrue (leq_a x z) → V z y → V x y) → IsCover leq_a U xs → IsCover leq (FromSome V xs) found → IsCover leq (Through U V) found
  reached leq_a U xs found falls b c = record {
    elements = λ y m. let f = c.elements y m in (f.0, b.elements f.0 f.1, f.2);
    complete = λ y h. let w = b.complete h.0 h.1 in c.complete y (w.0, w.1, falls w.0 h.0 y (b.elements w.0 w.1) h.1 w.2 h.2);
  }

-- The images of a cover under a monotone map cover what lies above the images of its set.
pub image_cover : {A B : Type 0} (leq_a : A → A → Bool) (is_value : B → Bool) (leq_b : B → B → Bool) (laws : IsOrder is_value leq_b) (f : A → B) (U : A → Type 0) (xs : List A)
    → ((x : A) → U x → IsTrue (is_value (f x))) → ((x y : A) → U x → U y → IsTrue (leq_a x y) → IsTrue (leq_b (f x) (f y))) → IsCover leq_a U xs → IsCover leq_b (IsAboveImage is_value leq_b f U) (map f xs)
image_cover {A = A} {B = B} leq_a is_value leq_b laws f U xs values rises c = record { elements = λ t m. element t (mem-map f xs t m); complete = complete }
  where
    element : (t : B) → ((x : A) × IsMember x xs × (t ≡ f x)) → IsAboveImage is_value leq_b f U t
    element t o =
        let v : IsTrue (is_value t) = subst (λ (z : B). IsTrue (is_value z)) (sym o.2) (values o.0 (c.elements o.0 o.1)) in
        record { value = v; origin = o.0; element = c.elements o.0 o.1; above = subst (λ (z : B). IsTrue (leq_b z t)) o.2 (laws.reflexive t v) }

    complete : (t : B) → IsAboveImage is_value leq_b f U t → Below leq_b (map f xs) t
    complete t h =
        let b = c.complete h.origin h.element in
        let u = c.elements b.0 b.1 in
        (f b.0, map-mem f xs b.0 b.1, laws.transitive (f b.0) (f h.origin) t (values b.0 u) (values h.origin h.element) h.value (rises b.0 h.origin u h.element b.2) h.above)

-- ---- joins

module _ {A B C : Type 0} (join : A → B → C) (leq_a : A → A → Bool) (leq_b : B → B → Bool) (leq : C → C → Bool) (U : A → Type 0) (V : B → Type 0)
    (joined : (x z : A) (y w : B) → U x → U z → V y → V w → leq (join x y) (join z w) ≡ leq_a x z && leq_b y w) where
  -- The joins of two covers cover the joins of their sets.
  pub joins_cover : (xs : List A) (ys : List B) → IsCover leq_a U xs → IsCover leq_b V ys → IsCover leq (JoinOf join U V) (joins join xs ys)
  joins_cover xs ys a b = record { elements = element; complete = complete }
    where
      element : (z : C) → IsMember z (joins join xs ys) → JoinOf join U V z
      element z m =
          let s = mem-flat_map (λ x. map (join x) ys) xs z m in
          let w = mem-map (join s.0) ys z s.2 in
          (s.0, w.0, w.2, a.elements s.0 s.1, b.elements w.0 w.1)

      complete : (z : C) → JoinOf join U V z → Below leq (joins join xs ys) z
      complete z h =
          let p = a.complete h.0 h.3 in
          let q = b.complete h.1 h.4 in
          let l : IsTrue (leq (join p.0 q.0) (join h.0 h.1)) = joined p.0 h.0 q.0 h.1 (a.elements p.0 p.1) h.3 (b.elements q.0 q.1) h.4 ∙ both _ _ p.2 q.2 in
          (join p.0 q.0, flat_map-mem (λ x. map (join x) ys) xs p.0 (join p.0 q.0) p.1 (map-mem (join p.0) ys q.0 q.1), subst (λ (c : C). IsTrue (leq (join p.0 q.0) c)) (sym h.2) l)

  apart_first : (x z : A) (y w : B) → U x → U z → V y → V w → IsTrue (apart leq_a x z) → IsTrue (apart leq (join x y) (join z w))
  apart_first x z y w u v p q h = apart_intro leq (join x y) (join z w)
      (λ l. no (leq_a x z) (first _ _ h) (first (leq_a x z) _ (sym (joined x z y w u v p q) ∙ l)))
      (λ l. no (leq_a z x) (second (not (leq_a x z)) _ h) (first (leq_a z x) _ (sym (joined z x w y v u q p) ∙ l)))
    where
      no : (b : Bool) → IsTrue (not b) → IsTrue b → ⊥
      no b n t = let e = not_true b n in cc

  apart_second : (x : A) (y w : B) → U x → V y → V w → IsTrue (apart leq_b y w) → IsTrue (apart leq (join x y) (join x w))
  apart_second x y w u p q h = apart_intro leq (join x y) (join x w)
      (λ l. no (leq_b y w) (first _ _ h) (second (leq_a x x) _ (sym (joined x x y w u u p q) ∙ l)))
      (λ l. no (leq_b w y) (second (not (leq_b y w)) _ h) (second (leq_a x x) _ (sym (joined x x w y u u q p) ∙ l)))
    where
      no : (b : Bool) → IsTrue (not b) → IsTrue b → ⊥
      no b n t = let e = not_true b n in cc

  joins_of_one : (x : A) (ys : List B) → U x → ((y : B) → IsMember y ys → V y) → IsTrue (are_incomparable leq_b ys) → IsTrue (are_incomparable leq (map (join x) ys))
  joins_of_one x [] u v h = refl
  joins_of_one x (y ∷ ys) u v h = both _ _
      (all_intro (apart leq (join x y)) (map (join x) ys) (λ w m. from w (mem-map (join x) ys w m)))
      (joins_of_one x ys u (λ w m. v w (inr m)) (second (list_all (apart leq_b y) ys) _ h))
    where
      from : (w : C) → (k : (b : B) × IsMember b ys × (w ≡ join x b)) → IsTrue (apart leq (join x y) w)
      from w k = subst (λ (c : C). IsTrue (apart leq (join x y) c)) (sym k.2) (apart_second x y k.0 u (v y (inl refl)) (v k.0 (inr k.1)) (all_elim (apart leq_b y) ys k.0 (first _ _ h) k.1))

  joins_incomparable : (xs : List A) (ys : List B) → ((x : A) → IsMember x xs → U x) → ((y : B) → IsMember y ys → V y) → IsTrue (are_incomparable leq_a xs) → IsTrue (are_incomparable leq_b ys)
      → IsTrue (are_incomparable leq (joins join xs ys))
  joins_incomparable [] ys u v h k = refl
  joins_incomparable (x ∷ xs) ys u v h k =
      incomparable-join leq (map (join x) ys) (joins join xs ys)
      (joins_of_one x ys (u x (inl refl)) v k) (joins_incomparable xs ys (λ z m. u z (inr m)) v (second (list_all (apart leq_a x) xs) _ h) k)
      (λ p q m n.
      let r = mem-map (join x) ys p m in
      let s = mem-flat_map (λ z. map (join z) ys) xs q n in
      let w = mem-map (join s.0) ys q s.2 in
      let heads = apart_first x s.0 r.0 w.0 (u x (inl refl)) (u s.0 (inr s.1)) (v r.0 r.1) (v w.0 w.1) (all_elim (apart leq_a x) xs s.0 (first _ _ h) s.1) in
      subst (λ (c : C). IsTrue (apart leq c q)) (sym r.2) (subst (λ (c : C). IsTrue (apart leq (join x r.0) c)) (sym w.2) heads))

  -- The joins of two bases are a basis of the joins of their sets.
  pub joins_basis : (xs : List A) (ys : List B) → IsBasis leq_a U xs → IsBasis leq_b V ys → IsBasis leq (JoinOf join U V) (joins join xs ys)
  joins_basis xs ys a b =
      let c = joins_cover xs ys (basis_is_cover leq_a U xs a) (basis_is_cover leq_b V ys b) in
      record { elements = c.elements; incomparable = joins_incomparable xs ys a.elements b.elements a.incomparable b.incomparable; complete = c.complete }
