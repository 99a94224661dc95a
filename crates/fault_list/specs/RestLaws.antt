-- A list that is gone through: the faults of what is left decide, and what is made of it follows.
use Rattle.std.proofs.Common.{◌≡◌, ◌∙◌, ◌<◌, ◌+◌, ap, sym, ℕ, List, [], ◌∷◌, ◌++◌, append_assoc, drop, length, map, get_or}
use Rattle.std.proofs.lemmas.List.{drop_more, map-append}
use Rattle.std.specs.List.{flat_map}
use Rattle.std.specs.Prelude.{Some}
use Rattle.fault_list.specs.Faults.{first_fault}

-- Where two lists have nothing together, the second has nothing.
pub none_right : {A : Type 0} (xs ys : List A) → xs ++ ys ≡ [] → ys ≡ []
none_right [] ys e = e
none_right (x ∷ xs) ys e = absurd (cc)

module _ {A F : Type 0} (faults : A → List F) (items : List A) (i : ℕ) (x : A) (inside : i < length items) (is : x ≡ get_or items i x) (whole : List F) (left : whole ≡ flat_map faults (drop i items)) where
  pub rest_next : whole ≡ faults x ++ flat_map faults (drop (i + 1) items)
  rest_next = left ∙ ap (flat_map faults) (drop_more items i x inside ∙ ap (λ (y : A). y ∷ drop (i + 1) items) (sym is))

  pub rest_first : (fault : F) → faults x ≡ fault ∷ [] → first_fault whole ≡ Some fault
  rest_first fault e = ap first_fault (rest_next ∙ ap (λ fs. fs ++ flat_map faults (drop (i + 1) items)) e)

  pub rest_none : faults x ≡ [] → whole ≡ flat_map faults (drop (i + 1) items)
  rest_none e = rest_next ∙ ap (λ fs. fs ++ flat_map faults (drop (i + 1) items)) e

module _ {A B C : Type 0} (f : A → C) (g : B → C) (items : List A) (i : ℕ) (x : A) (inside : i < length items) (is : x ≡ get_or items i x) (made : List B) (left : map f items ≡ map g made ++ map f (drop i items)) where
  -- One item more is made.
  pub made_next : (y : B) (new : List B) → new ≡ made ++ y ∷ [] → g y ≡ f x → map f items ≡ map g new ++ map f (drop (i + 1) items)
  made_next y new e same =
      left ∙ ap (λ (xs : List A). map g made ++ map f xs) (drop_more items i x inside ∙ ap (λ (z : A). z ∷ drop (i + 1) items) (sym is)) ∙ ap (λ (z : C). map g made ++ z ∷ map f (drop (i + 1) items)) (sym same)
      ∙ sym (append_assoc (map g made) (g y ∷ []) (map f (drop (i + 1) items))) ∙ ap (λ (zs : List C). zs ++ map f (drop (i + 1) items)) (sym (map-append g made (y ∷ [])) ∙ ap (map g) (sym e))
