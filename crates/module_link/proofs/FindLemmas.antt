-- What is found of the items of a list, one after the other.
use Rattle.std.proofs.Common.{◌≡◌, ◌∙◌, ◌<◌, ◌≤◌, ◌+◌, refl, ap, ℕ, List, [], ◌∷◌, ◌++◌, map, drop, length, get_or}
use Rattle.std.proofs.lemmas.List.{drop_all, drop_more}
use Rattle.std.specs.Prelude.{Option, Some, None, Err, option_map}
use Rattle.module_link.specs.Links.{Finds}
use Rattle.module_link.specs.declared.fault.LinkFault.{LinkFault}
use Rattle.module_link.specs.declared.fault.LinkFault.TheVariants as fault
use Rattle.order_core.specs.MemberLaws.{append_nil}
use Rattle.tree_units.specs.Together.{together, with_first}
use Rattle.tree_units.specs.TogetherLaws.{put_last}

module _ {A B : Type 0} (f : A → Option B) (xs : List A) (i : ℕ) (x : A) (inside : i < length xs) (is : x ≡ get_or xs i x) (made : List B) (whole : Option (List B)) (so_far : whole ≡ option_map (λ rest. made ++ rest) (together (map f (drop i xs)))) where
  front : whole ≡ option_map (λ rest. made ++ rest) (with_first (f x) (together (map f (drop (i + 1) xs))))
  front = so_far ∙ rw (drop_more xs i x inside, ← is) refl

  -- One of them is found.
  pub found_next : (v : B) (next : List B) → f x ≡ Some v → next ≡ made ++ v ∷ [] → whole ≡ option_map (λ rest. next ++ rest) (together (map f (drop (i + 1) xs)))
  found_next v next e n = front ∙ rw (e, n) (put_last made v (together (map f (drop (i + 1) xs))))

  -- One of them isn't found.
  pub found_stopped : (s : LinkFault) → Finds {A = B} (f x) (Err s) → Finds {A = List B} whole (Err s)
  found_stopped fault.Unresolved h = front ∙ rw h refl
  found_stopped fault.Memory h = tt

  pub found_none : f x ≡ None → whole ≡ None
  found_none h = front ∙ rw h refl

-- All of them are found.
pub found_all : {A B : Type 0} (f : A → Option B) (xs : List A) (i : ℕ) (made : List B) (whole : Option (List B)) → length xs ≤ i → whole ≡ option_map (λ rest. made ++ rest) (together (map f (drop i xs))) → whole ≡ Some made
found_all {B = B} f xs i made whole le h = h ∙ rw (drop_all i xs le) (ap (λ (ys : List B). Some ys) (append_nil made))
