-- The argument that is given for a parameter.
use Rattle.std.proofs.Common.{◌≡◌, ◌∙◌, ◌<◌, ◌≤◌, ◌⊎◌, inl, inr, arith, refl, sym, ap, ℕ, cond, List, [], ◌∷◌, get_or, length, map}
use Rattle.std.proofs.lemmas.Option.{slice_get_cases}
use Rattle.std.specs.Prelude.{Some, None, option_and_then, slice_get}
use Rattle.std.specs.Str.{bytes_eq}
use Rattle.design_lexer.specs.declared.tree.ArgTree.{ArgTree}
use Rattle.module_link.specs.Contents.{bare_sources}
use Rattle.module_link.specs.Links.{resolved_in}
use Rattle.name_index.specs.PlaceLaws.{named_item_next, place_below}
use Rattle.name_index.specs.Places.{named_item, place_of}
use Rattle.name_table.specs.declared.source.SourceFile.{SourceFile}
use Rattle.reference_meaning.specs.Linking.{filled}
use Rattle.reference_meaning.specs.LinkingLaws.{fill, filled_as_given}
use Rattle.reference_meaning.specs.Sources.{argument_of, given, parameter_of}

first_given : (arguments : List ArgTree) (name : List ℕ) → named_item parameter_of arguments name ≡ given arguments name
first_given [] name = refl
first_given (a ∷ arguments) name = named_item_next parameter_of a arguments name ∙ ap (cond (bytes_eq name (parameter_of a)) (Some a)) (first_given arguments name)

-- The argument at the place of its name.
pub place_read : (arguments : List ArgTree) (place : ℕ) (name : List ℕ) → place_of parameter_of arguments name ≡ Some place → (a : ArgTree) × (slice_get arguments place ≡ Some a) × (named_item parameter_of arguments name ≡ Some a)
place_read arguments place name e = go (slice_get_cases arguments place).1
  where
    go : ((a : ArgTree) × (place < length arguments) × (slice_get arguments place ≡ Some a) × (get_or arguments place a ≡ a)) ⊎ ((length arguments ≤ place) × (slice_get arguments place ≡ None)) → (a : ArgTree) × (slice_get arguments place ≡ Some a) × (named_item parameter_of arguments name ≡ Some a)
    go (inl w) = (w.0, w.2, ap (option_and_then (slice_get arguments)) e ∙ w.2)
    go (inr w) = let l = place_below parameter_of arguments name place e in absurd (omega (arith, l, w.0))

module _ (files : List SourceFile) (params : List (List ℕ)) (arguments : List ArgTree) (name : List ℕ) where
  found : given arguments name ≡ named_item parameter_of arguments name
  found = sym (first_given arguments name)

  -- The argument of this name is resolved.
  pub filled_found : (a : ArgTree) → named_item parameter_of arguments name ≡ Some a → filled (map (fill (bare_sources files) params) arguments) name ≡ resolved_in files params (argument_of a)
  filled_found a e = filled_as_given (bare_sources files) params arguments name ∙ ap (option_and_then (λ b. resolved_in files params (argument_of b))) (found ∙ e)

  pub filled_absent : named_item parameter_of arguments name ≡ None → filled (map (fill (bare_sources files) params) arguments) name ≡ None
  filled_absent e = filled_as_given (bare_sources files) params arguments name ∙ ap (option_and_then (λ b. resolved_in files params (argument_of b))) (found ∙ e)
