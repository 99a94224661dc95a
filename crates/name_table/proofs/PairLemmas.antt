-- Pairs of a file and one that it refers to, added one list after the other.
use Rattle.std.proofs.Common.{◌≡◌, ◌∙◌, ◌<◌, ◌+◌, sym, ap, ℕ, Bool, List, ◌∷◌, ◌++◌, append_assoc, drop, length, map, get_or}
use Rattle.std.proofs.lemmas.List.{drop_more, map-append}
use Rattle.std.proofs.lemmas.List.Concat.{flat_map-append}
use Rattle.std.specs.List.{flat_map}
use Rattle.std.specs.Prelude.{Option}
use Rattle.design_lexer.specs.declared.tree.NameAt.{NameAt}
use Rattle.name_table.specs.References.{file_named}

-- What is made so far, with one part more, and what is left of the whole.
pub part_next : {A : Type 0} (whole made own rest new : List A) → whole ≡ made ++ (own ++ rest) → new ≡ made ++ own → whole ≡ new ++ rest
part_next whole made own rest new h e = h ∙ sym (append_assoc made own rest) ∙ ap (λ xs. xs ++ rest) (sym e)

module _ (find : List ℕ → Option ℕ) (hidden : List ℕ → Bool) (i : ℕ) where
  -- the pairs of a list of names
  abbrev pub pairs_of : List NameAt → List (ℕ × ℕ)
  pairs_of names = map (λ j. (i, j)) (flat_map (file_named find hidden) names)

  pairs_joined : (xs ys : List NameAt) → pairs_of (xs ++ ys) ≡ pairs_of xs ++ pairs_of ys
  pairs_joined xs ys = ap (map (λ j. (i, j))) (flat_map-append (file_named find hidden) xs ys) ∙ map-append (λ j. (i, j)) (flat_map (file_named find hidden) xs) (flat_map (file_named find hidden) ys)

  pub name_added : (old new : List (ℕ × ℕ)) (name : NameAt) (names all : List NameAt) → all ≡ name ∷ names → new ≡ old ++ map (λ j. (i, j)) (file_named find hidden name) → new ++ pairs_of names ≡ old ++ pairs_of all
  name_added old new name names all is e =
      ap (λ (xs : List (ℕ × ℕ)). xs ++ pairs_of names) e ∙ append_assoc old (map (λ j. (i, j)) (file_named find hidden name)) (pairs_of names)
      ∙ ap (λ (xs : List (ℕ × ℕ)). old ++ xs) (sym (map-append (λ j. (i, j)) (file_named find hidden name) (flat_map (file_named find hidden) names)) ∙ ap pairs_of (sym is))

  -- One item more of a list that is gone through, with the names that it has.
  pub names_added : {A : Type 0} (names : A → List NameAt) (items : List A) (k : ℕ) (x : A) → k < length items → x ≡ get_or items k x → (old new whole : List (ℕ × ℕ))
      → old ++ pairs_of (flat_map names (drop k items)) ≡ whole → new ≡ old ++ pairs_of (names x) → new ++ pairs_of (flat_map names (drop (k + 1) items)) ≡ whole
  names_added {A = A} names items k x inside is old new whole h e =
      ap (λ (xs : List (ℕ × ℕ)). xs ++ pairs_of (flat_map names (drop (k + 1) items))) e ∙ append_assoc old (pairs_of (names x)) (pairs_of (flat_map names (drop (k + 1) items)))
      ∙ ap (λ (xs : List (ℕ × ℕ)). old ++ xs) (sym (pairs_joined (names x) (flat_map names (drop (k + 1) items))))
      ∙ ap (λ (xs : List A). old ++ pairs_of (flat_map names xs)) (sym (drop_more items k x inside ∙ ap (λ (y : A). y ∷ drop (k + 1) items) (sym is))) ∙ h
