-- How the tuples of a product grow, part by part.
use Rattle.std.proofs.Common.{ℕ, ◌+◌, ◌<◌, ◌≤◌, ◌≡◌, ◌∙◌, refl, sym, ap, subst, Bool, IsTrue, List, [], ◌∷◌, ◌++◌, map, take, drop, length, get_or, append_assoc}
use Rattle.std.proofs.lemmas.List.{map-append, map-id, take_more, take_all, drop_more, drop_all}
use Rattle.std.specs.List.{list_all, flat_map}
use Rattle.order_core.specs.MemberLaws.{first, second, both, all_elim, all_intro, mem-map, mem-flat_map, append_nil}
use Rattle.order_core.specs.Tuple.{are_values, product, with_each}

-- each of the fronts followed by each of the tails
abbrev pub joined : {A : Type 0} → List (List A) → List (List A) → List (List A)
joined fronts tails = flat_map (λ front. map (λ tail. front ++ tail) tails) fronts

pub joined-start : {A : Type 0} (ts : List (List A)) → joined ([] ∷ []) ts ≡ ts
joined-start ts = append_nil (map (λ tail. [] ++ tail) ts) ∙ map-id ts

pub joined-done : {A : Type 0} (fronts : List (List A)) → joined fronts ([] ∷ []) ≡ fronts
joined-done [] = refl
joined-done (f ∷ fs) = let e : f ++ [] ≡ f = append_nil f in let ih : joined fs ([] ∷ []) ≡ fs = joined-done fs in rw (e, ih) refl

module _ {A : Type 0} (cs : List A) (ts : List (List A)) where
  one : (front : List A) (c : A) (us : List (List A)) → map (λ tail. (front ++ c ∷ []) ++ tail) us ≡ map (λ tail. front ++ tail) (map (λ tail. c ∷ tail) us)
  one front c [] = refl
  one front c (u ∷ us) = let ih = one front c us in let e : (front ++ c ∷ []) ++ u ≡ front ++ c ∷ u = append_assoc front (c ∷ []) u in cc

  each : (front : List A) (xs : List A) → joined (with_each xs front) ts ≡ map (λ tail. front ++ tail) (flat_map (λ x. map (λ tail. x ∷ tail) ts) xs)
  each front [] = refl
  each front (x ∷ xs) =
      ap (λ zs. map (λ tail. (front ++ x ∷ []) ++ tail) ts ++ zs) (each front xs)
      ∙ ap (λ zs. zs ++ map (λ tail. front ++ tail) (flat_map (λ y. map (λ tail. y ∷ tail) ts) xs)) (one front x ts)
      ∙ sym (map-append (λ tail. front ++ tail) (map (λ tail. x ∷ tail) ts) (flat_map (λ y. map (λ tail. y ∷ tail) ts) xs))

  joined-append : (xs ys : List (List A)) → joined (xs ++ ys) ts ≡ joined xs ts ++ joined ys ts
  joined-append [] ys = refl
  joined-append (x ∷ xs) ys = rw (joined-append xs ys) (sym (append_assoc (map (λ tail. x ++ tail) ts) (joined xs ts) (joined ys ts)))

  -- One part more may be joined to the fronts or to the tails.
  pub joined-more : (fronts : List (List A)) → joined (flat_map (with_each cs) fronts) ts ≡ joined fronts (flat_map (λ x. map (λ tail. x ∷ tail) ts) cs)
  joined-more [] = refl
  joined-more (f ∷ fs) = joined-append (with_each cs f) (flat_map (with_each cs) fs) ∙ ap (λ zs. joined (with_each cs f) ts ++ zs) (joined-more fs)
      ∙ ap (λ zs. zs ++ joined fs (flat_map (λ x. map (λ tail. x ∷ tail) ts) cs)) (each f cs)

module _ {P A : Type 0} (is_value : P → A → Bool) where
  push_value : (ps : List P) (t : List A) (p : P) (x : A) → IsTrue (are_values (map is_value ps) t) → IsTrue (is_value p x) → IsTrue (are_values (map is_value (ps ++ p ∷ [])) (t ++ x ∷ []))
  push_value [] [] p x h k = both _ _ k refl
  push_value [] (y ∷ t) p x h k = absurd (cc)
  push_value (q ∷ ps) [] p x h k = absurd (cc)
  push_value (q ∷ ps) (y ∷ t) p x h k = both _ _ (first _ _ h) (push_value ps t p x (second (is_value q y) _ h) k)

  pub extended_values : (ps : List P) (ts : List (List A)) (p : P) (xs : List A) → IsTrue (list_all (are_values (map is_value ps)) ts) → IsTrue (list_all (is_value p) xs)
      → IsTrue (list_all (are_values (map is_value (ps ++ p ∷ []))) (flat_map (with_each xs) ts))
  extended_values ps ts p xs h k = all_intro (are_values (map is_value (ps ++ p ∷ []))) (flat_map (with_each xs) ts) (λ w m.
      let r = mem-flat_map (with_each xs) ts w m in
      let s = mem-map (λ x. r.0 ++ x ∷ []) xs w r.2 in
      subst (λ z. IsTrue (are_values (map is_value (ps ++ p ∷ [])) z)) (sym s.2)
      (push_value ps r.0 p s.0 (all_elim (are_values (map is_value ps)) ts r.0 h r.1) (all_elim (is_value p) xs s.0 k s.1)))

-- The tuple is put with one item more, and with the last one.
module _ {A : Type 0} (before made : List (List A)) (others tuple front : List A) (i : ℕ) (x : A)
    (so_far : made ≡ before ++ with_each (take i others) tuple) (front-is : front ≡ tuple) where
  pub put_more : i < length others → x ≡ get_or others i x → made ++ (front ++ x ∷ []) ∷ [] ≡ before ++ with_each (take (i + 1) others) tuple
  put_more inside x-is =
      rw (take_more others i x inside, ← x-is, so_far, front-is, map-append (λ item. tuple ++ item ∷ []) (take i others) (x ∷ []))
      (append_assoc before (with_each (take i others) tuple) ((tuple ++ x ∷ []) ∷ []))

  pub put_last : (items : List A) → length others ≤ i → items ≡ others ++ x ∷ [] → made ++ (front ++ x ∷ []) ∷ [] ≡ before ++ with_each items tuple
  put_last items end items-is =
      let all : take i others ≡ others = take_all i others end in
      let here : made ≡ before ++ with_each others tuple = so_far ∙ ap (λ zs. before ++ with_each zs tuple) all in
      rw (items-is, here, front-is, map-append (λ item. tuple ++ item ∷ []) others (x ∷ []))
      (append_assoc before (with_each others tuple) ((tuple ++ x ∷ []) ∷ []))

-- One step of the loop over the parts, and its end.
module _ {A : Type 0} (cs : List (List A)) (made : List (List A)) (i : ℕ) (left : joined made (product (drop i cs)) ≡ product cs) where
  pub product_done : length cs ≤ i → made ≡ product cs
  product_done end = sym (joined-done made) ∙ ap (λ zs. joined made (product zs)) (sym (drop_all i cs end)) ∙ left

  pub product_next : (c : List A) → i < length cs → c ≡ get_or cs i c → joined (flat_map (with_each c) made) (product (drop (i + 1) cs)) ≡ product cs
  product_next c within c-is =
      let front : drop i cs ≡ c ∷ drop (i + 1) cs = drop_more cs i c within ∙ ap (λ z. z ∷ drop (i + 1) cs) (sym c-is) in
      joined-more c (product (drop (i + 1) cs)) made ∙ ap (λ zs. joined made (product zs)) (sym front) ∙ left

pub tuples_next : {P A : Type 0} (is_value : P → A → Bool) (ps : List P) (made : List (List A)) (i : ℕ) (p : P) (c : List A)
    → IsTrue (list_all (are_values (map is_value (take i ps))) made) → IsTrue (list_all (is_value p) c) → i < length ps → p ≡ get_or ps i p
    → IsTrue (list_all (are_values (map is_value (take (i + 1) ps))) (flat_map (with_each c) made))
tuples_next is_value ps made i p c h k inside p-is =
    let front : take (i + 1) ps ≡ take i ps ++ p ∷ [] = take_more ps i p inside ∙ ap (λ z. take i ps ++ z ∷ []) (sym p-is) in
    subst (λ qs. IsTrue (list_all (are_values (map is_value qs)) (flat_map (with_each c) made))) (sym front) (extended_values is_value (take i ps) made p c h k)
