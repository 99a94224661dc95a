-- References that lead only downward are resolved.
use Rattle.std.proofs.Common.{◌≡◌, ◌∙◌, inl, inr, refl, sym, ap, ℕ, zero, suc, Bool, true, false, cond, List, [], ◌∷◌, length, map}
use Rattle.std.specs.Prelude.{Option, Some, None, is_some, option_and_then, option_map, slice_get, slice_index}
use Rattle.std.specs.Str.{bytes_eq}
use Rattle.design_lexer.specs.declared.tree.ArgTree.{ArgTree}
use Rattle.design_lexer.specs.declared.tree.BranchTree.{BranchTree}
use Rattle.design_lexer.specs.declared.tree.RefTree.{RefTree}
use Rattle.library_load.proofs.RankLemmas.{depth, file_falls, rank_of}
use Rattle.library_load.proofs.SourceLemmas.{member_got}
use Rattle.module_link.specs.BareLaws.{resolved_bare}
use Rattle.module_link.specs.Contents.{AreSourcesOf}
use Rattle.module_link.specs.Links.{IsUnresolved, link_of}
use Rattle.name_index.specs.PlaceLaws.{position_there}
use Rattle.name_table.specs.Ranks.{AreRanks}
use Rattle.name_table.specs.References.{references}
use Rattle.name_table.specs.declared.source.SourceFile.{SourceFile}
use Rattle.name_table.specs.declared.source.Table.{Table}
use Rattle.order_core.specs.Members.{IsMember}
use Rattle.order_core.specs.MemberLaws.{any_intro}
use Rattle.order_core.specs.PointwiseLaws.{each_got}
use Rattle.reference_check.specs.LibraryFronts.{front_of, library_faults}
use Rattle.reference_meaning.specs.Linking.{Filled, filled, param_place, resolved_by, resolved_of, source_params}
use Rattle.reference_meaning.specs.LinkingLaws.{fill, filled_as_given, resolved_of-out}
use Rattle.reference_meaning.specs.Ranked.{Falls, FallsIn}
use Rattle.reference_meaning.specs.Sources.{Source, argument_of, arguments_of, branches_of, given, is_among, name_of, parameter_of, params_of, source_place}
use Rattle.reference_meaning.specs.declared.module.Link.{Link}
use Rattle.reference_meaning.specs.declared.module.Resolved.{Resolved}
use Rattle.reference_meaning.specs.declared.module.Resolved.TheVariants as resolved
use Rattle.reference_rules.specs.ReferenceFaults.{AreFronts}
use Rattle.std.proofs.lemmas.Slice.Eq.{bytes_eq-Decides}
use Rattle.tree_units.specs.Together.{together, with_first}
use Rattle.value_type.specs.declared.poset.Types.{Types}

some_there : {A : Type 0} (o : Option A) → is_some o ≡ true → (x : A) × (o ≡ Some x)
some_there (Some x) e = (x, refl)
some_there None e = absurd (cc)

-- All values are there where each is.
all_there : {A B : Type 0} (f : A → Option B) (xs : List A) → ((x : A) → IsMember x xs → (y : B) × (f x ≡ Some y)) → (ys : List B) × (together (map f xs) ≡ Some ys)
all_there f [] h = ([], refl)
all_there f (x ∷ xs) h =
    let here = h x (inl refl) in let rest = all_there f xs (λ y m. h y (inr m)) in
    (here.0 ∷ rest.0, λ i. with_first (here.1 i) (rest.1 i))

given_member : (xs : List ArgTree) (name : List ℕ) (a : ArgTree) → given xs name ≡ Some a → IsMember a xs
given_member [] name a e = absurd (cc)
given_member (x ∷ xs) name a e = go (bytes_eq name (parameter_of x)) e (λ h. given_member xs name a h)
  where
    go : (t : Bool) → cond t (Some x) (given xs name) ≡ Some a → (given xs name ≡ Some a → IsMember a xs) → IsMember a (x ∷ xs)
    go true h rest = let same : x ≡ a = cc in inl (sym same)
    go false h rest = inr (rest h)

module _ (sources : List Source) (rank : List ℕ → ℕ) (params : List (List ℕ)) (r : ℕ) where
  abbrev Resolves : RefTree → Type 0
  Resolves q = (v : Resolved) × (resolved_of sources params q ≡ Some v)

  -- A parameter's name has a number.
  to_parameter : (q : RefTree) → is_among params (name_of q) ≡ true → Resolves q
  to_parameter q e =
      let place = some_there (param_place params (name_of q)) (position_there (bytes_eq (name_of q)) 0 params ∙ e) in
      (resolved.Parameter place.0, resolved_of-out sources params q ∙ ap (λ o. resolved_by sources o (source_place sources (name_of q)) (map (fill sources params) (arguments_of q))) place.1)

  -- A file's name has a number, and each of its parameters an argument.
  to_file : (q : RefTree) (P : RefTree → Type 0) → ((a : RefTree) → P a → Resolves a) → Falls sources rank params r P q → Resolves q
  to_file q P arguments h = go (param_place params (name_of q)) refl
    where
      filled_in : List Filled
      filled_in = map (fill sources params) (arguments_of q)

      number : (i : ℕ) × (source_place sources (name_of q) ≡ Some i) × (slice_get sources i ≡ Some h.source)
      number = at (source_place sources (name_of q)) refl h.there
        where
          at : (o : Option ℕ) → source_place sources (name_of q) ≡ o → option_and_then (slice_get sources) o ≡ Some h.source → (i : ℕ) × (source_place sources (name_of q) ≡ Some i) × (slice_get sources i ≡ Some h.source)
          at (Some i) is e = (i, is, e)
          at None is e = absurd (cc)

      one : (p : List ℕ) → IsMember p (params_of h.source.tree) → (v : Resolved) × (filled filled_in p ≡ Some v)
      one p m =
          let among = any_intro (bytes_eq p) (params_of h.source.tree) p m ((bytes_eq-Decides p p).1 refl) in
          let a = some_there (given (arguments_of q) p) (sym (h.gives p) ∙ among) in
          let v = arguments (argument_of a.0) (each_got (λ (x : ArgTree). P (argument_of x)) (arguments_of q) a.0 h.arguments (given_member (arguments_of q) p a.0 a.1)) in
          (v.0, filled_as_given sources params (arguments_of q) p ∙ ap (option_and_then (λ (x : ArgTree). resolved_of sources params (argument_of x))) a.1 ∙ v.1)

      all : (vs : List Resolved) × (together (map (filled filled_in) (params_of h.source.tree)) ≡ Some vs)
      all = all_there (filled filled_in) (params_of h.source.tree) one

      go : (o : Option ℕ) → param_place params (name_of q) ≡ o → Resolves q
      go (Some k) is = (resolved.Parameter k, resolved_of-out sources params q ∙ ap (λ o. resolved_by sources o (source_place sources (name_of q)) filled_in) is)
      go None is = (
        resolved.Module number.0 all.0,
        resolved_of-out sources params q ∙ ap (λ o. resolved_by sources o (source_place sources (name_of q)) filled_in) is ∙ ap (λ o. resolved_by sources None o filled_in) number.1
            ∙ ap (λ o. option_map (resolved.Module number.0) (together (map (filled filled_in) (source_params o)))) number.2 ∙ ap (option_map (resolved.Module number.0)) all.1,
      )

  -- A reference that falls is resolved.
  falls_resolve : (k : ℕ) (q : RefTree) → FallsIn sources rank k params r q → Resolves q
  unfolding FallsIn
  falls_resolve zero q h = absurd h
  falls_resolve (suc k) q (inl e) = to_parameter q e
  falls_resolve (suc k) q (inr h) = to_file q (FallsIn sources rank k params r) (λ a g. falls_resolve k a g) h

module _ (files : List SourceFile) (ranks : List ℕ) (tables : List Table) (types : Types) (sources : List Source) (are : AreSourcesOf files tables types sources) (fronts : AreFronts sources (front_of files types))
    (fall : AreRanks (length files) (references files) ranks) (none : library_faults files types ≡ []) where
  -- Each file of a library without faults has its references resolved.
  pub none_unresolved : (f : SourceFile) → IsMember f files → IsUnresolved files f → ⊥
  none_unresolved f m bad =
      let at = member_got files f m in
      let b = bad.0 in
      let falls = file_falls files ranks tables types sources are fronts fall none at.0 f b at.1 bad.1 in
      let links = all_there (link_of files (params_of f.tree)) (branches_of b)
      (λ (x : BranchTree) n.
      let v = falls_resolve sources (rank_of files ranks) (params_of f.tree) (slice_index ranks at.0) (depth files) x.reference
      (each_got (λ (y : BranchTree). FallsIn sources (rank_of files ranks) (depth files) (params_of f.tree) (slice_index ranks at.0) y.reference) (branches_of b) x falls n) in
      let named : Resolved → Link = λ w. record { name = x.name.name; reference = w } in
      (named v.0, ap (option_map named) (sym (resolved_bare files tables types sources are (params_of f.tree) x.reference) ∙ v.1))) in
      let both = sym bad.2 ∙ links.1 in absurd (cc)
