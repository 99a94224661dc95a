-- The modules of all files, made one after the other.
use Rattle.std.proofs.Common.{◌≡◌, ◌∙◌, ◌<◌, ◌≤◌, ◌+◌, ◌⊎◌, inl, inr, arith, refl, sym, ap, subst, ℕ, zero, suc, List, [], ◌∷◌, ◌++◌, get_or, length}
use Rattle.std.proofs.lemmas.Bool.{cases_lt}
use Rattle.std.proofs.lemmas.List.{length-append}
use Rattle.std.proofs.lemmas.Option.{slice_get_cases, slice_get_within}
use Rattle.std.specs.Prelude.{Option, Some, None, slice_get}
use Rattle.catalogue_read.specs.Catalogues.{HasRows}
use Rattle.design_lexer.specs.declared.tree.BodyTree.{BodyTree}
use Rattle.design_lexer.specs.declared.tree.BodyTree.TheVariants as tree
use Rattle.design_lexer.specs.declared.tree.BranchTree.{BranchTree}
use Rattle.design_model.specs.declared.design.CatRow.{CatRow}
use Rattle.module_link.specs.BareLaws.{resolved_bare}
use Rattle.module_link.specs.Contents.{AreSourcesOf, IsSourceOf, bare_sources, content_of, source_of}
use Rattle.module_link.specs.Links.{AreModulesOf, IsModuleAt}
use Rattle.name_table.specs.declared.source.SourceFile.{SourceFile}
use Rattle.name_table.specs.declared.source.Table.{Table}
use Rattle.order_core.specs.Pointwise.{Pointwise}
use Rattle.order_core.specs.PointwiseLaws.{pointwise_got, pointwise_length, pointwise_weaker}
use Rattle.reference_meaning.specs.Linking.{AreModules, IsBodyOf, IsLinkOf, IsModuleOf}
use Rattle.reference_meaning.specs.Sources.{Content, Source, body_of, params_of}
use Rattle.reference_meaning.specs.declared.module.Link.{Link}
use Rattle.reference_meaning.specs.declared.module.Module.{Module}
use Rattle.reference_meaning.specs.declared.module.ModuleBody.{ModuleBody}
use Rattle.reference_meaning.specs.declared.module.ModuleBody.TheVariants as body
use Rattle.value_type.specs.declared.poset.Types.{Types}

pushed_before : {A : Type 0} (xs : List A) (x : A) (i : ℕ) (y : A) → slice_get xs i ≡ Some y → slice_get (xs ++ x ∷ []) i ≡ Some y
pushed_before [] x i y e = absurd (cc)
pushed_before (z ∷ xs) x zero y e = e
pushed_before (z ∷ xs) x (suc i) y e = pushed_before xs x i y e

pushed_last : {A : Type 0} (xs : List A) (x : A) → slice_get (xs ++ x ∷ []) (length xs) ≡ Some x
pushed_last [] x = refl
pushed_last (z ∷ xs) x = pushed_last xs x

module _ (files : List SourceFile) (types : Types) (rows : List (List CatRow)) where
  -- Each file so far has its module.
  abbrev pub AreMade : List (Option Module) → Type 0
  AreMade made = (i : ℕ) (f : SourceFile) (r : List CatRow) → i < length made → slice_get files i ≡ Some f → slice_get rows i ≡ Some r
      → (m : Option Module) × (slice_get made i ≡ Some m) × IsModuleAt files types i f r (body_of f.tree) m

  pub none_made : AreMade []
  none_made i f r l e h = absurd (omega arith)

  pub made_next : (made : List (Option Module)) (m : Option Module) (f : SourceFile) (r : List CatRow) → AreMade made → slice_get files (length made) ≡ Some f → slice_get rows (length made) ≡ Some r
      → IsModuleAt files types (length made) f r (body_of f.tree) m → AreMade (made ++ m ∷ [])
  made_next made m f r before file row is i g s l e h = go (cases_lt i (length made))
    where
      go : (i < length made) ⊎ (length made ≤ i) → (o : Option Module) × (slice_get (made ++ m ∷ []) i ≡ Some o) × IsModuleAt files types i g s (body_of g.tree) o
      go (inl less) = let w = before i g s less e h in (w.0, pushed_before made m i w.0 w.1, w.2)
      go (inr more) =
          let size : length (made ++ m ∷ []) ≡ length made + 1 = length-append made (m ∷ []) in
          let at : length made ≡ i = omega arith in
          let same_file : f ≡ g = let there = sym file ∙ ap (slice_get files) at ∙ e in cc in
          let same_rows : r ≡ s = let there = sym row ∙ ap (slice_get rows) at ∙ h in cc in
          (m, ap (slice_get (made ++ m ∷ [])) (sym at) ∙ pushed_last made m, subst (λ k. IsModuleAt files types k g s (body_of g.tree) m) at (subst (λ t. IsModuleAt files types (length made) g t (body_of g.tree) m) same_rows (subst (λ (x : SourceFile). IsModuleAt files types (length made) x r (body_of x.tree) m) same_file is)))

  -- the sources of the files from this number on
  sources_from : ℕ → List SourceFile → List (List CatRow) → List Source
  sources_from k [] rs = []
  sources_from k (f ∷ fs) [] = []
  sources_from k (f ∷ fs) (r ∷ rs) = source_of files types k f r ∷ sources_from (k + 1) fs rs

  from_size : (k : ℕ) (fs : List SourceFile) (rs : List (List CatRow)) → length fs ≡ length rs → length (sources_from k fs rs) ≡ length fs
  unfolding sources_from
  from_size k [] rs e = refl
  from_size k (f ∷ fs) [] e = absurd (cc)
  from_size k (f ∷ fs) (r ∷ rs) e = ap suc (from_size (k + 1) fs rs (omega (arith, e)))

  from_got : (k : ℕ) (fs : List SourceFile) (rs : List (List CatRow)) (i : ℕ) (f : SourceFile) (r : List CatRow) → slice_get fs i ≡ Some f → slice_get rs i ≡ Some r → slice_get (sources_from k fs rs) i ≡ Some (source_of files types (k + i) f r)
  unfolding sources_from
  from_got k [] rs i f r e h = absurd (cc)
  from_got k (g ∷ fs) [] i f r e h = absurd (cc)
  from_got k (g ∷ fs) (s ∷ rs) zero f r e h =
      let file : g ≡ f = cc in let row : s ≡ r = cc in let at : k ≡ k + 0 = omega arith in λ j. Some (source_of files types (at j) (file j) (row j))
  from_got k (g ∷ fs) (s ∷ rs) (suc i) f r e h =
      let at : k + 1 + i ≡ k + suc i = omega arith in from_got (k + 1) fs rs i f r e h ∙ ap (λ n. Some (source_of files types n f r)) at

  module _ (tables : List Table) (have : Pointwise (HasRows tables types) files rows) where
    abbrev sources : List Source
    sources = sources_from 0 files rows

    abbrev At : ℕ → Type 0
    At i = (f : SourceFile) × (r : List CatRow) × (slice_get files i ≡ Some f) × (slice_get rows i ≡ Some r) × HasRows tables types f r × (slice_get sources i ≡ Some (source_of files types i f r))

    at_file : (i : ℕ) (f : SourceFile) → slice_get files i ≡ Some f → At i
    at_file i f e =
        let w = pointwise_got (HasRows tables types) files rows i f have e in
        let at : 0 + i ≡ i = omega arith in
        (f, w.0, e, w.1, w.2, from_got 0 files rows i f w.0 e w.1 ∙ ap (λ n. Some (source_of files types n f w.0)) at)

    size : length sources ≡ length files
    size = from_size 0 files rows (pointwise_length (HasRows tables types) files rows have)

    at_place : (i : ℕ) → i < length files → At i
    at_place i l = go (slice_get_cases files i).1
      where
        go : ((f : SourceFile) × (i < length files) × (slice_get files i ≡ Some f) × (get_or files i f ≡ f)) ⊎ ((length files ≤ i) × (slice_get files i ≡ None)) → At i
        go (inl w) = at_file i w.0 w.2
        go (inr w) = absurd (omega (arith, w.0))

    are_sources : AreSourcesOf files tables types sources
    are_sources = record {
      size = size;
      each = λ i f e. let w = at_file i f e in let file : w.0 ≡ f = let same = w.2 in cc in
          (source_of files types i w.0 w.1, w.5, subst (λ (g : SourceFile). IsSourceOf files tables types i g (source_of files types i w.0 w.1)) file (record { rows = w.1; has = w.4; is = refl }));
    }

    linked : (params : List (List ℕ)) (branches : List BranchTree) (links : List Link) → Pointwise (IsLinkOf (bare_sources files) params) branches links → Pointwise (IsLinkOf sources params) branches links
    linked params branches links h =
        pointwise_weaker (IsLinkOf (bare_sources files) params) (IsLinkOf sources params) branches links (λ b l m k. record { name = k.name; reference = resolved_bare files tables types sources are_sources params b.reference ∙ k.reference }) h

    body_linked : (params : List (List ℕ)) (c : Content) (b : BodyTree) (m : ModuleBody) → IsBodyOf (bare_sources files) params c b m → IsBodyOf sources params c b m
    body_linked params c (tree.Catalogue ports rows table) (body.Catalogue made) h = h
    body_linked params c (tree.Catalogue ports rows table) (body.Choice links) h = absurd h
    body_linked params c (tree.Catalogue ports rows table) (body.Net links constraints) h = absurd h
    body_linked params c (tree.Choose branches) (body.Catalogue made) h = absurd h
    body_linked params c (tree.Choose branches) (body.Choice links) h = linked params branches links h
    body_linked params c (tree.Choose branches) (body.Net links constraints) h = absurd h
    body_linked params c (tree.Net ports instances rules) (body.Catalogue made) h = absurd h
    body_linked params c (tree.Net ports instances rules) (body.Choice links) h = absurd h
    body_linked params c (tree.Net ports instances rules) (body.Net links constraints) h = (linked params instances links h.0, h.1)

    -- All files have their modules.
    pub all_made : (made : List (Option Module)) → AreMade made → length made ≡ length rows → AreModulesOf files tables types made
    all_made made are count = record {
      sources = sources;
      are_sources = are_sources;
      are_modules = modules;
      size = count ∙ sym (pointwise_length (HasRows tables types) files rows have);
      others = λ i f e none. let w = at_file i f e in let m = made_at i f e w in other i f w.1 m.0 (body_of f.tree) none m.1 m.2;
    }
      where
        inside : (i : ℕ) (f : SourceFile) → slice_get files i ≡ Some f → i < length made
        inside i f e = let l = slice_get_within files i f e in let n = pointwise_length (HasRows tables types) files rows have in omega arith

        made_at : (i : ℕ) (f : SourceFile) (e : slice_get files i ≡ Some f) (w : At i) → (m : Option Module) × (slice_get made i ≡ Some m) × IsModuleAt files types i f w.1 (body_of f.tree) m
        made_at i f e w = are i f w.1 (inside i f e) e w.3

        other : (i : ℕ) (f : SourceFile) (r : List CatRow) (m : Option Module) (b : Option BodyTree) → b ≡ None → slice_get made i ≡ Some m → IsModuleAt files types i f r b m → slice_get made i ≡ Some None
        other i f r (Some m) (Some b) none e h = absurd (cc)
        other i f r None (Some b) none e h = absurd (cc)
        other i f r (Some m) None none e h = absurd h
        other i f r None None none e h = e

        one : (i : ℕ) (f : SourceFile) (r : List CatRow) (o : Option Module) (t : Option BodyTree) (b : BodyTree) → t ≡ Some b → slice_get made i ≡ Some o → IsModuleAt files types i f r t o
            → (m : Module) × (slice_get made i ≡ Some (Some m)) × IsModuleOf sources (source_of files types i f r) b m
        one i f r (Some m) (Some t) b is e h =
            let same : t ≡ b = cc in
            let k : IsModuleOf (bare_sources files) (source_of files types i f r) b m = subst (λ (x : BodyTree). IsModuleOf (bare_sources files) (source_of files types i f r) x m) same h in
            (m, e, record { provides = k.provides; requires_ = k.requires_; body = body_linked (params_of f.tree) (content_of files types i f r) b m.body k.body })
        one i f r None (Some t) b is e h = absurd h
        one i f r o None b is e h = absurd (cc)

        modules : AreModules sources made
        modules i source b e is =
            let l = slice_get_within sources i source e in let n = size in
            let w = at_place i (omega arith) in
            let same : source_of files types i w.0 w.1 ≡ source = let there = w.5 in cc in
            let body : body_of w.0.tree ≡ Some b = ap (λ (s : Source). body_of s.tree) same ∙ is in
            let m = made_at i w.0 w.2 w in
            let found = one i w.0 w.1 m.0 (body_of w.0.tree) b body m.1 m.2 in
            (found.0, found.1, subst (λ (s : Source). IsModuleOf sources s b found.0) same found.2)
