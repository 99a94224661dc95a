-- A reference with its names resolved, by what its name stands for.
use Rattle.std.proofs.Common.{◌≡◌, ◌∙◌, refl, sym, ap, ℕ, List, map}
use Rattle.std.proofs.lemmas.Simd.{map-map}
use Rattle.std.specs.Prelude.{Option, Some, None, Err, option_map, slice_get}
use Rattle.std.specs.Str.{bytes_eq}
use Rattle.design_lexer.specs.declared.tree.ParamTree.{ParamTree}
use Rattle.design_lexer.specs.declared.tree.RefTree.{RefTree}
use Rattle.module_link.specs.BareLaws.{bare_place, position_mapped}
use Rattle.module_link.specs.Contents.{bare_sources}
use Rattle.module_link.specs.Links.{Finds, resolved_in}
use Rattle.module_link.specs.declared.fault.LinkFault.{LinkFault}
use Rattle.module_link.specs.declared.fault.LinkFault.TheVariants as fault
use Rattle.name_index.specs.Places.{place_of}
use Rattle.name_table.specs.Files.{is_design, stem_place}
use Rattle.name_table.specs.declared.source.SourceFile.{SourceFile}
use Rattle.reference_meaning.specs.Linking.{Filled, filled, resolved_by, source_params}
use Rattle.reference_meaning.specs.LinkingLaws.{fill, resolved_of-out}
use Rattle.reference_meaning.specs.Sources.{arguments_of, name_of, source_place}
use Rattle.reference_meaning.specs.declared.module.Resolved.TheVariants as resolved
use Rattle.tree_units.specs.Together.{together}

abbrev pub spelled : List ParamTree → List (List ℕ)
spelled params = map (λ p. p.name.name) params

-- What is made of what is found is found as well.
pub finds_stopped : {A B : Type 0} (f : A → B) (found : Option A) (whole : Option B) → whole ≡ option_map f found → (s : LinkFault) → Finds {A = A} found (Err s) → Finds {A = B} whole (Err s)
finds_stopped f found whole is fault.Unresolved h = is ∙ ap (option_map f) h
finds_stopped f found whole is fault.Memory h = tt

module _ (files : List SourceFile) (params : List ParamTree) (q : RefTree) where
  abbrev arguments : List Filled
  arguments = map (fill (bare_sources files) (spelled params)) (arguments_of q)

  by_places : (o p : Option ℕ) → place_of (λ (p : ParamTree). p.name.name) params (name_of q) ≡ o → stem_place is_design files (name_of q) ≡ p → resolved_in files (spelled params) q ≡ resolved_by (bare_sources files) o p arguments
  by_places o p e h =
      resolved_of-out (bare_sources files) (spelled params) q
      ∙ ap (λ o. resolved_by (bare_sources files) o (source_place (bare_sources files) (name_of q)) arguments) (position_mapped (bytes_eq (name_of q)) (λ (p : ParamTree). p.name.name) 0 params ∙ e)
      ∙ ap (λ p. resolved_by (bare_sources files) o p arguments) (bare_place files (name_of q) ∙ h)

  pub resolved_parameter : (k : ℕ) → place_of (λ (p : ParamTree). p.name.name) params (name_of q) ≡ Some k → resolved_in files (spelled params) q ≡ Some (resolved.Parameter k)
  resolved_parameter k e = by_places (Some k) (stem_place is_design files (name_of q)) e refl

  pub resolved_nowhere : place_of (λ (p : ParamTree). p.name.name) params (name_of q) ≡ None → stem_place is_design files (name_of q) ≡ None → resolved_in files (spelled params) q ≡ None
  resolved_nowhere e h = by_places None None e h

  pub resolved_file : (i : ℕ) (wanted : List ParamTree) → place_of (λ (p : ParamTree). p.name.name) params (name_of q) ≡ None → stem_place is_design files (name_of q) ≡ Some i → spelled wanted ≡ source_params (slice_get (bare_sources files) i)
      → resolved_in files (spelled params) q ≡ option_map (resolved.Module i) (together (map (λ p. filled arguments p.name.name) wanted))
  resolved_file i wanted e h w =
      by_places None (Some i) e h ∙ ap (λ names. option_map (resolved.Module i) (together (map (filled arguments) names))) (sym w) ∙ ap (λ os. option_map (resolved.Module i) (together os)) (map-map (filled arguments) (λ (p : ParamTree). p.name.name) wanted)
