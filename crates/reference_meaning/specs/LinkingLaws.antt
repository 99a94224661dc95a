-- The resolved form of a reference, level by level.
use Rattle.std.specs.Prelude.{◌≡◌, ℕ, Bool, true, false, cond, List, [], ◌∷◌, find, map, Option, Some, option_and_then}
use Rattle.std.specs.Str.{bytes_eq}
use Rattle.std.proofs.Common.{refl, ◌∙◌}
use Rattle.design_lexer.specs.declared.tree.ArgTree.{ArgTree, fold-ArgTree, fold_out-ArgTree}
use Rattle.design_lexer.specs.declared.tree.RefTree.{RefTree, fold_out-RefTree}
use Rattle.reference_meaning.specs.Linking.{Filled, filled, param_place, resolve_step, resolved_by, resolved_of}
use Rattle.reference_meaning.specs.Sources.{Source, argument_of, arguments_of, given, name_of, parameter_of, source_place}
use Rattle.reference_meaning.specs.declared.module.Resolved.{Resolved}

module _ (sources : List Source) (params : List (List ℕ)) where
  -- what an argument gives
  abbrev pub fill : ArgTree → Filled
  fill a = record { name = parameter_of a; resolved = resolved_of sources params (argument_of a) }

  fill_argument : (a : ArgTree) → fold-ArgTree Filled (Option Resolved) (λ a. record { name = a.name.name; resolved = a.reference }) (resolve_step sources params) a ≡ fill a
  fill_argument a = fold_out-ArgTree Filled (Option Resolved) (λ a. record { name = a.name.name; resolved = a.reference }) (resolve_step sources params) a

  pub resolved_of-out : (q : RefTree) → resolved_of sources params q ≡ resolved_by sources (param_place params (name_of q)) (source_place sources (name_of q)) (map fill (arguments_of q))
  resolved_of-out q = fold_out-RefTree Filled (Option Resolved) (λ a. record { name = a.name.name; resolved = a.reference }) (resolve_step sources params) q
      ∙ (λ i. resolved_by sources (param_place params (name_of q)) (source_place sources (name_of q)) (map (λ a. fill_argument a i) (arguments_of q)))

  pub filled_as_given : (arguments : List ArgTree) (name : List ℕ) → filled (map fill arguments) name ≡ option_and_then (λ a. resolved_of sources params (argument_of a)) (given arguments name)
  filled_as_given [] name = refl
  filled_as_given (a ∷ arguments) name = at (bytes_eq name (parameter_of a)) (filled_as_given arguments name)
    where
      at : (b : Bool) → filled (map fill arguments) name ≡ option_and_then (λ a. resolved_of sources params (argument_of a)) (given arguments name)
          → option_and_then (λ f. f.resolved) (cond b (Some (fill a)) (find (λ f. bytes_eq name f.name) (map fill arguments))) ≡ option_and_then (λ a. resolved_of sources params (argument_of a)) (cond b (Some a) (given arguments name))
      at true rest = refl
      at false rest = rest
