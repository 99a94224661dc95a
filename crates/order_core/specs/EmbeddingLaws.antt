-- An order seen through a function: what holds in the one order holds in the other.
use Rattle.std.proofs.Common.{refl, sym, ap, subst, ◌∙◌}
use Rattle.std.specs.List.{list_all, list_any}
use Rattle.std.specs.Prelude.{◌≡◌, Bool, ◌&&◌, IsTrue, List, [], ◌∷◌, map}
use Rattle.order_core.specs.Embedding.{IsEmbedding}
use Rattle.order_core.specs.MemberLaws.{first, second, both, any_elim, any_intro, all_elim, all_intro, mem-map, map-mem}
use Rattle.order_core.specs.Members.{IsMember}
use Rattle.order_core.specs.Order.{IsOrder, IsLeast, AreBounds, apart, are_incomparable}

module _ {A B : Type 0} (is_value : A → Bool) (leq : A → A → Bool) (is_image : B → Bool) (image_leq : B → B → Bool) (f : A → B)
    (embeds : IsEmbedding is_value leq is_image image_leq f) where
  pub came_from : (z : B) → IsTrue (is_image z) → (x : A) × IsTrue (is_value x) × (z ≡ f x)
  came_from z h = let r = embeds.onto z h in (r.0, sym (embeds.value r.0) ∙ (ap is_image (sym r.1) ∙ h), r.1)

  to : (x y : A) → IsTrue (leq x y) → IsTrue (image_leq (f x) (f y))
  to x y h = embeds.order x y ∙ h

  from : (x y : A) → IsTrue (image_leq (f x) (f y)) → IsTrue (leq x y)
  from x y h = sym (embeds.order x y) ∙ h

  -- a comparison of two images, as one of what they came from
  pub leq_origin : (z w : B) (x y : A) → z ≡ f x → w ≡ f y → IsTrue (image_leq z w) → IsTrue (leq x y)
  leq_origin z w x y e g h = from x y (subst (λ (v : B). IsTrue (image_leq (f x) v)) g (subst (λ (v : B). IsTrue (image_leq v w)) e h))

  pub leq_image : (z w : B) (x y : A) → z ≡ f x → w ≡ f y → IsTrue (leq x y) → IsTrue (image_leq z w)
  leq_image z w x y e g h = subst (λ (v : B). IsTrue (image_leq v w)) (sym e) (subst (λ (v : B). IsTrue (image_leq (f x) v)) (sym g) (to x y h))

  pub embedded_laws : IsOrder is_value leq → IsOrder is_image image_leq
  embedded_laws laws = record {
    reflexive = λ z h. let r = came_from z h in leq_image z z r.0 r.0 r.2 r.2 (laws.reflexive r.0 r.1);
    transitive = λ z w v h k l p q.
        let a = came_from z h in
        let b = came_from w k in
        let c = came_from v l in
        leq_image z v a.0 c.0 a.2 c.2 (laws.transitive a.0 b.0 c.0 a.1 b.1 c.1 (leq_origin z w a.0 b.0 a.2 b.2 p) (leq_origin w v b.0 c.0 b.2 c.2 q));
    antisymmetric = λ z w h k p q.
        let a = came_from z h in
        let b = came_from w k in
        a.2 ∙ (ap f (laws.antisymmetric a.0 b.0 a.1 b.1 (leq_origin z w a.0 b.0 a.2 b.2 p) (leq_origin w z b.0 a.0 b.2 a.2 q)) ∙ sym b.2);
  }

  images : (xs : List A) → IsTrue (list_all is_value xs) → IsTrue (list_all is_image (map f xs))
  images [] h = refl
  images (x ∷ xs) h = both _ _ (embeds.value x ∙ first _ _ h) (images xs (second (is_value x) _ h))

  apart_images : (x y : A) → IsTrue (apart leq x y) → IsTrue (apart image_leq (f x) (f y))
  apart_images x y h = rw (embeds.order x y, embeds.order y x) h

  incomparable_images : (xs : List A) → IsTrue (are_incomparable leq xs) → IsTrue (are_incomparable image_leq (map f xs))
  incomparable_images [] h = refl
  incomparable_images (x ∷ xs) h = both _ _ (each xs (first _ _ h)) (incomparable_images xs (second (list_all (apart leq x) xs) _ h))
    where
      each : (ys : List A) → IsTrue (list_all (apart leq x) ys) → IsTrue (list_all (apart image_leq (f x)) (map f ys))
      each [] k = refl
      each (y ∷ ys) k = both _ _ (apart_images x y (first _ _ k)) (each ys (second (apart leq x y) _ k))

  -- where an item is below x, its image is below what x came to
  some_below : (xs : List A) (x : A) (z : B) → z ≡ f x → IsTrue (list_any (λ y. leq y x) xs) → IsTrue (list_any (λ y. image_leq y z) (map f xs))
  some_below xs x z e h =
      let r = any_elim (λ y. leq y x) xs h in
      any_intro (λ y. image_leq y z) (map f xs) (f r.0) (map-mem f xs r.0 r.1) (leq_image (f r.0) z r.0 x refl e r.2)

  pub embedded_least : (xs : List A) → IsLeast is_value leq xs → IsLeast is_image image_leq (map f xs)
  embedded_least xs h = record {
    values = images xs h.values;
    incomparable = incomparable_images xs h.incomparable;
    complete = λ z k. let r = came_from z k in some_below xs r.0 z r.2 (h.complete r.0 r.1);
  }

  pub embedded_bounds : (a b : A) (xs : List A) → AreBounds is_value leq a b xs → AreBounds is_image image_leq (f a) (f b) (map f xs)
  embedded_bounds a b xs h = record {
    values = images xs h.values;
    incomparable = incomparable_images xs h.incomparable;
    above = all_intro (λ z. image_leq (f a) z && image_leq (f b) z) (map f xs) (λ w m. above w (mem-map f xs w m));
    complete = λ z k p q. let r = came_from z k in some_below xs r.0 z r.2 (h.complete r.0 r.1 (leq_origin (f a) z a r.0 refl r.2 p) (leq_origin (f b) z b r.0 refl r.2 q));
  }
    where
      above : (w : B) → (x : A) × IsMember x xs × (w ≡ f x) → IsTrue (image_leq (f a) w && image_leq (f b) w)
      above w r =
          let here = all_elim (λ x. leq a x && leq b x) xs r.0 h.above r.1 in
          both _ _ (leq_image (f a) w a r.0 refl r.2 (first _ _ here)) (leq_image (f b) w b r.0 refl r.2 (second (leq a r.0) _ here))
