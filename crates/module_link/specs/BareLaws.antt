-- Names are resolved by the names and trees of files alone.
use Rattle.std.proofs.Common.{◌≡◌, ◌∙◌, ◌<◌, ◌≤◌, ◌+◌, ◌⊎◌, ◌&&◌, inl, inr, arith, refl, sym, ap, ℕ, suc, Bool, cond, List, [], ◌∷◌, get_or, length, map}
use Rattle.std.proofs.lemmas.List.{length-map}
use Rattle.std.proofs.lemmas.Option.{slice_get-map, slice_get_cases, slice_get_within}
use Rattle.std.specs.List.{position_from}
use Rattle.std.specs.Prelude.{Option, Some, None, is_some, option_map, slice_get}
use Rattle.std.specs.Str.{bytes_eq}
use Rattle.design_lexer.specs.declared.tree.File.{File}
use Rattle.design_lexer.specs.declared.tree.File.TheVariants as file
use Rattle.design_lexer.specs.declared.tree.RefTree.{RefTree, RefTree-F, fold-RefTree}
use Rattle.module_link.specs.Contents.{AreSourcesOf, bare_source, bare_sources}
use Rattle.module_link.specs.Links.{resolved_in}
use Rattle.name_table.specs.Files.{is_design, stem_place}
use Rattle.name_table.specs.declared.source.SourceFile.{SourceFile}
use Rattle.name_table.specs.declared.source.Table.{Table}
use Rattle.reference_meaning.specs.Linking.{Filled, filled, param_place, resolve_step, resolved_by, resolved_of, source_params}
use Rattle.reference_meaning.specs.Sources.{Source, body_of, source_place}
use Rattle.reference_meaning.specs.declared.module.Resolved.{Resolved}
use Rattle.reference_meaning.specs.declared.module.Resolved.TheVariants as resolved
use Rattle.tree_units.specs.Together.{together}
use Rattle.value_type.specs.declared.poset.Types.{Types}

-- The place of the first item that passes, where items are mapped.
pub position_mapped : {A B : Type 0} (p : B → Bool) (f : A → B) (s : ℕ) (xs : List A) → position_from p s (map f xs) ≡ position_from (λ x. p (f x)) s xs
position_mapped p f s [] = refl
position_mapped p f s (x ∷ xs) = ap (cond (p (f x)) (Some s)) (position_mapped p f (s + 1) xs)

position_same : {A : Type 0} (p q : A → Bool) (s : ℕ) (xs : List A) → ((x : A) → p x ≡ q x) → position_from p s xs ≡ position_from q s xs
position_same p q s [] h = refl
position_same p q s (x ∷ xs) h = λ i. cond (h x i) (Some s) (position_same p q (s + 1) xs h i)

is_design_file : (f : File) → is_some (body_of f) ≡ is_design f
is_design_file (file.Poset poset) = refl
is_design_file (file.Interface ports) = refl
is_design_file (file.Design b) = refl
is_design_file (file.Template params b) = refl

-- A name stands for the same file.
pub bare_place : (files : List SourceFile) (name : List ℕ) → source_place (bare_sources files) name ≡ stem_place is_design files name
bare_place files name =
    position_mapped (λ (s : Source). is_some (body_of s.tree) && bytes_eq name s.stem) bare_source 0 files
    ∙ position_same (λ (f : SourceFile). is_some (body_of f.tree) && bytes_eq name f.stem) (λ f. is_design f.tree && bytes_eq name f.stem) 0 files (λ f. ap (λ t. t && bytes_eq name f.stem) (is_design_file f.tree))

-- Lists are equal that have the same items.
pub same_items : {A : Type 0} (xs ys : List A) → length xs ≡ length ys → ((i : ℕ) (x : A) → slice_get xs i ≡ Some x → slice_get ys i ≡ Some x) → xs ≡ ys
same_items [] [] size h = refl
same_items [] (y ∷ ys) size h = absurd (cc)
same_items (x ∷ xs) [] size h = absurd (cc)
same_items (x ∷ xs) (y ∷ ys) size h =
    let head : y ≡ x = let at = h 0 x refl in cc in let less : length xs ≡ length ys = omega (arith, size) in
    let tail = same_items xs ys less (λ i z e. h (suc i) z e) in λ i. sym head i ∷ tail i

-- the source without its content
abbrev strip : Source → Source
strip s = record { stem = s.stem; tree = s.tree; content = record { provides = []; requires_ = []; rows = []; constraints = [] } }

stripped_step : (sources : List Source) (params : List (List ℕ)) (q : RefTree-F Filled (Option Resolved)) → resolve_step (map strip sources) params q ≡ resolve_step sources params q
stripped_step sources params q = ap (λ p. resolved_by (map strip sources) (param_place params q.name.name) p q.arguments) place ∙ go (param_place params q.name.name) (source_place sources q.name.name)
  where
    place : source_place (map strip sources) q.name.name ≡ source_place sources q.name.name
    place = position_mapped (λ (s : Source). is_some (body_of s.tree) && bytes_eq q.name.name s.stem) strip 0 sources

    at : (o : Option Source) → source_params (option_map strip o) ≡ source_params o
    at (Some s) = refl
    at None = refl

    go : (o p : Option ℕ) → resolved_by (map strip sources) o p q.arguments ≡ resolved_by sources o p q.arguments
    go (Some k) p = refl
    go None (Some i) = ap (λ wanted. option_map (resolved.Module i) (together (map (filled q.arguments) wanted))) (ap source_params (slice_get-map strip sources i) ∙ at (slice_get sources i))
    go None None = refl

module _ (files : List SourceFile) (tables : List Table) (types : Types) (sources : List Source) (are : AreSourcesOf files tables types sources) where
  stripped : map strip sources ≡ bare_sources files
  stripped = same_items (map strip sources) (bare_sources files) size each
    where
      size : length (map strip sources) ≡ length (bare_sources files)
      size = length-map sources strip ∙ are.size ∙ sym (length-map files bare_source)

      file_at : (i : ℕ) (s : Source) → slice_get sources i ≡ Some s → ((f : SourceFile) × (i < length files) × (slice_get files i ≡ Some f) × (get_or files i f ≡ f)) ⊎ ((length files ≤ i) × (slice_get files i ≡ None)) → slice_get (bare_sources files) i ≡ Some (strip s)
      file_at i s got (inl w) =
          let h = are.each i w.0 w.2 in
          let is : h.0 ≡ s = cc in
          slice_get-map bare_source files i ∙ ap (option_map bare_source) w.2 ∙ ap (λ (t : Source). Some (strip t)) (sym h.2.is ∙ is)
      file_at i s got (inr w) = let l = slice_get_within sources i s got in let size = are.size in absurd (omega (arith, w.0))

      each : (i : ℕ) (x : Source) → slice_get (map strip sources) i ≡ Some x → slice_get (bare_sources files) i ≡ Some x
      each i x e = go (slice_get sources i) refl (sym (slice_get-map strip sources i) ∙ e)
        where
          go : (o : Option Source) → slice_get sources i ≡ o → option_map strip o ≡ Some x → slice_get (bare_sources files) i ≡ Some x
          go (Some s) got is = file_at i s got (slice_get_cases files i).1 ∙ is
          go None got is = absurd (cc)

  -- A reference is resolved as with all that files say.
  pub resolved_bare : (params : List (List ℕ)) (q : RefTree) → resolved_of sources params q ≡ resolved_in files params q
  resolved_bare params q = sym (λ i. fold-RefTree Filled (Option Resolved) (λ a. record { name = a.name.name; resolved = a.reference }) (λ x. stripped_step sources params x i) q) ∙ ap (λ ss. resolved_of ss params q) stripped
