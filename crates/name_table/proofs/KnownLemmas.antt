-- The names that indexes have are those that the files and tables have.
use Rattle.std.proofs.Common.{◌≡◌, ◌∙◌, ◌<◌, ◌≤◌, ◌+◌, ◌&&◌, arith, refl, sym, ap, subst, ℕ, List, [], ◌∷◌, ◌++◌, ◌⊎◌, inl, inr, length, take, get_or}
use Rattle.std.proofs.lemmas.List.{take_more}
use Rattle.std.proofs.lemmas.Option.{get_or_from_slice_get, slice_get_cases}
use Rattle.std.specs.Prelude.{Option, Some, None, is_some, option_and_then, slice_get}
use Rattle.std.specs.Str.{bytes_eq}
use Rattle.name_index.specs.Names.{number_of}
use Rattle.name_index.specs.PlaceLaws.{position_below}
use Rattle.name_rules.specs.Twice.{is_listed}
use Rattle.name_table.specs.Files.{elements_in, is_poset, known_in, poset_elements, stem_place}
use Rattle.name_table.specs.Stems.{AreElementsOf, AreStems, AreTableStems, has_element, known_by}
use Rattle.name_table.specs.declared.library.LibraryNames.{LibraryNames}
use Rattle.name_table.specs.declared.source.SourceFile.{SourceFile}
use Rattle.name_table.specs.declared.source.Table.{Table}
use Rattle.order_core.specs.Pointwise.{Pointwise}
use Rattle.order_core.specs.PointwiseLaws.{pointwise_got}
use Rattle.name_table.specs.PartnerLaws.{pointwise_push}

-- One item more of a list that is gone through.
pub pointwise_next : {A B : Type 0} (R : A → B → Type 0) (items : List A) (i : ℕ) (x : A) (ys : List B) (y : B) → i < length items → x ≡ get_or items i x → Pointwise R (take i items) ys → R x y
    → Pointwise R (take (i + 1) items) (ys ++ y ∷ [])
pointwise_next {A = A} R items i x ys y inside is p r =
    subst (λ (xs : List A). Pointwise R xs (ys ++ y ∷ [])) (sym (take_more items i x inside ∙ ap (λ (z : A). take i items ++ z ∷ []) (sym is))) (pointwise_push R (take i items) ys x y p r)

module _ (names : LibraryNames) (files : List SourceFile) (tables : List Table) (stems : AreStems files names.stems) (table_stems : AreTableStems tables names.tables)
    (elements : Pointwise AreElementsOf files names.elements) where
  element_at : (n : ℕ) (stem element : List ℕ) → stem_place is_poset files stem ≡ Some n → has_element names.elements (Some n) element ≡ is_listed (elements_in (slice_get files n)) element
  element_at n stem element e = go (slice_get_cases files n).1
    where
      inside : n < length files
      inside = let l = position_below (λ (f : SourceFile). is_poset f.tree && bytes_eq stem f.stem) 0 files n e in omega (arith, l)

      go : ((f : SourceFile) × (n < length files) × (slice_get files n ≡ Some f) × (get_or files n f ≡ f)) ⊎ ((length files ≤ n) × (slice_get files n ≡ None)) → has_element names.elements (Some n) element ≡ is_listed (elements_in (slice_get files n)) element
      go (inl w) =
          let partner = pointwise_got AreElementsOf files names.elements n w.0 elements w.2 in
          ap (λ (ys : List (List ℕ × ℕ)). is_some (number_of ys element)) (get_or_from_slice_get names.elements n partner.0 [] partner.1) ∙ partner.2 element
          ∙ ap (λ (o : Option SourceFile). is_listed (elements_in o) element) (sym w.2)
      go (inr w) = absurd (omega (arith, inside, w.0))

  element_same : (stem element : List ℕ) → has_element names.elements (number_of names.stems.posets stem) element ≡ is_listed (poset_elements files stem) element
  element_same stem element = ap (λ (o : Option ℕ). has_element names.elements o element) (stems.posets stem) ∙ go (stem_place is_poset files stem) refl
    where
      go : (o : Option ℕ) → stem_place is_poset files stem ≡ o → has_element names.elements o element ≡ is_listed (elements_in (option_and_then (slice_get files) o)) element
      go None e = refl
      go (Some n) e = element_at n stem element e

  pub known_same : known_by names ≡ known_in files tables
  known_same = λ i. record {
    design = λ stem. is_some (stems.designs stem i);
    interface = λ stem. is_some (stems.interfaces stem i);
    table = λ stem. is_some (table_stems stem i);
    poset = λ stem. is_some (stems.posets stem i);
    element = λ stem element. element_same stem element i;
  }
