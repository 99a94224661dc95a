-- The parts of a product, worked out one after the other.
use Rattle.std.proofs.Common.{◌≡◌, ◌∙◌, ◌<◌, ◌+◌, refl, sym, ap, ℕ, Bool, true, false, ◌||◌, List, [], ◌∷◌, ◌++◌, map, drop, length, get_or}
use Rattle.std.proofs.lemmas.List.{drop_more}
use Rattle.std.specs.List.{flat_map, list_any}
use Rattle.std.specs.Prelude.{Option, Some, option_map}
use Rattle.tree_units.specs.Together.{together}
use Rattle.tree_units.specs.TogetherLaws.{put_last}

pub neither : (a b : Bool) → (a || b) ≡ false → (a ≡ false) × (b ≡ false)
neither true b h = absurd (cc)
neither false b h = (refl, h)

module _ {A : Type 0} (xs : List A) (i : ℕ) (x : A) (inside : i < length xs) (is : x ≡ get_or xs i x) where
  left : drop i xs ≡ x ∷ drop (i + 1) xs
  left = drop_more xs i x inside ∙ ap (λ (y : A). y ∷ drop (i + 1) xs) (sym is)

  pub none_next : (test : A → Bool) → list_any (λ part. part) (map test (drop i xs)) ≡ false → (test x ≡ false) × (list_any (λ part. part) (map test (drop (i + 1) xs)) ≡ false)
  none_next test h = neither (test x) (list_any (λ part. part) (map test (drop (i + 1) xs))) (ap (λ (zs : List A). list_any (λ part. part) (map test zs)) (sym left) ∙ h)

  pub faults_next : {F : Type 0} (faults : A → List F) (whole : List F) → faults x ≡ [] → whole ≡ flat_map faults (drop i xs) → whole ≡ flat_map faults (drop (i + 1) xs)
  faults_next {F = F} faults whole e h = h ∙ ap (flat_map faults) left ∙ ap (λ (fs : List F). fs ++ flat_map faults (drop (i + 1) xs)) e

  pub there_next : {B : Type 0} (f : A → Option B) (y : B) → Some y ≡ f x → (made next : List B) (whole : Option (List B)) → next ≡ made ++ y ∷ []
      → whole ≡ option_map (λ rest. made ++ rest) (together (map f (drop i xs))) → whole ≡ option_map (λ rest. next ++ rest) (together (map f (drop (i + 1) xs)))
  there_next {B = B} f y e made next whole n h =
      h
      ∙ ap (λ (zs : List A). option_map (λ rest. made ++ rest) (together (map f zs))) left
      ∙ ap (λ (o : Option B). option_map (λ rest. made ++ rest) (together (o ∷ map f (drop (i + 1) xs)))) (sym e)
      ∙ put_last made y (together (map f (drop (i + 1) xs)))
      ∙ ap (λ (zs : List B). option_map (λ rest. zs ++ rest) (together (map f (drop (i + 1) xs)))) (sym n)
