-- A design whose references denote designs has a meaning.
use Rattle.std.proofs.Common.{◌≡◌, ◌∙◌, ◌≤◌, ◌+◌, ◌&&◌, inl, inr, arith, refl, sym, ap, subst, ℕ, Bool, true, IsTrue, List, [], ◌∷◌, length}
use Rattle.std.proofs.lemmas.Slice.Eq.{bytes_eq-Decides}
use Rattle.std.specs.Prelude.{Option, Some, None, find, is_some, slice_get, slice_index}
use Rattle.std.specs.Str.{bytes_eq}
use Rattle.design_lexer.specs.declared.tree.BodyTree.{BodyTree}
use Rattle.design_lexer.specs.declared.tree.BodyTree.TheVariants as body
use Rattle.design_lexer.specs.declared.tree.BranchTree.{BranchTree}
use Rattle.design_lexer.specs.declared.tree.File.{File}
use Rattle.design_lexer.specs.declared.tree.File.TheVariants as file
use Rattle.design_lexer.specs.declared.tree.RefTree.{RefTree}
use Rattle.design_model.specs.declared.design.Design.{Design}
use Rattle.design_model.specs.declared.design.Design.TheVariants.{Cat, Net}
use Rattle.design_model.specs.declared.design.Part.{Part}
use Rattle.library_load.proofs.RankLemmas.{depth, file_falls, rank_of, sources_ranked}
use Rattle.library_load.proofs.SourceLemmas.{body_of_file, file_of_source, member_got, stem_same, tree_same}
use Rattle.library_load.specs.Designs.{IsDesign}
use Rattle.module_link.specs.Contents.{AreSourcesOf}
use Rattle.name_table.specs.Ranks.{AreRanks}
use Rattle.name_table.specs.References.{references}
use Rattle.name_table.specs.declared.source.SourceFile.{SourceFile}
use Rattle.name_table.specs.declared.source.Table.{Table}
use Rattle.order_core.specs.MemberLaws.{any_intro, both, first, got_member}
use Rattle.order_core.specs.Members.{IsMember}
use Rattle.order_core.specs.Pointwise.{Pointwise}
use Rattle.order_core.specs.PointwiseLaws.{each_got, pointwise_weaker}
use Rattle.reference_check.specs.LibraryFronts.{front_of, library_faults}
use Rattle.reference_meaning.specs.Denotes.{Binding, BodyDenotes, Denotes, DenotesIn, FileDenotes, IsPart, Matches, choice_of}
use Rattle.reference_meaning.specs.DenotesLaws.{more}
use Rattle.reference_meaning.specs.Ranked.{AreRanked, FallsIn}
use Rattle.reference_meaning.specs.Sources.{Content, Source, body_of, branches_of, is_closed, params_of}
use Rattle.reference_rules.specs.ReferenceFaults.{AreFronts}
use Rattle.reference_rules.specs.ReferenceLaws.{found_passes, found_there}
use Rattle.value_type.specs.declared.poset.Types.{Types}

-- The first item that passes, where some item does.
pub found : {A : Type 0} (t : A → Bool) (xs : List A) (x : A) → IsMember x xs → IsTrue (t x) → (y : A) × (find t xs ≡ Some y) × IsMember y xs × (t y ≡ true)
found {A = A} t xs x m h = go (find t xs) refl (found_there t xs ∙ any_intro t xs x m h)
  where
    go : (o : Option A) → find t xs ≡ o → is_some o ≡ true → (y : A) × (find t xs ≡ Some y) × IsMember y xs × (t y ≡ true)
    go (Some y) e there = let passes = found_passes t xs y e in (y, e, passes.0, passes.1)
    go None e there = absurd (cc)

-- A design has a body, and no parameters.
pub closed_body : (tree : File) → is_closed tree ≡ true → (b : BodyTree) × (body_of tree ≡ Some b) × (params_of tree ≡ [])
closed_body (file.Poset poset) e = absurd (cc)
closed_body (file.Interface ports) e = absurd (cc)
closed_body (file.Design b) e = (b, refl, refl)
closed_body (file.Template params b) e = absurd (cc)

module _ (sources : List Source) where
  -- Branches denote parts, in as many steps as all take together.
  parts_denote : (bs : List BranchTree) → ((x : BranchTree) → IsMember x bs → (X : Design) × Denotes sources [] x.reference X) → (n : ℕ) × (parts : List Part) × Pointwise (IsPart (DenotesIn sources n [])) bs parts
  parts_denote [] h = (0, [], tt)
  parts_denote (b ∷ bs) h =
      let here = h b (inl refl) in
      let rest = parts_denote bs (λ x m. h x (inr m)) in
      let n = here.1.0 + rest.0 in
      let left : here.1.0 ≤ n = omega arith in
      let right : rest.0 ≤ n = omega arith in (
        n,
        record { name = b.name.name; design = here.0 } ∷ rest.1,
        (
          record { name = refl; denotes = more sources here.1.0 n left [] b.reference here.0 here.1.1 },
          pointwise_weaker (IsPart (DenotesIn sources rest.0 [])) (IsPart (DenotesIn sources n [])) bs rest.1 (λ x p m r. record { name = r.name; denotes = more sources rest.0 n right [] x.reference p.design r.denotes }) rest.2,
        ),
      )

  abbrev Means : Content → BodyTree → Type 0
  Means c b = (X : Design) × (n : ℕ) × BodyDenotes (DenotesIn sources n []) c b X

  body_denotes : (c : Content) (b : BodyTree) → ((x : BranchTree) → IsMember x (branches_of b) → (X : Design) × Denotes sources [] x.reference X) → Means c b
  body_denotes c (body.Catalogue ports rows table) h = (Cat c.provides c.requires_ c.rows, 0, refl)
  body_denotes c (body.Choose branches) h = let parts = parts_denote branches h in (choice_of parts.1, parts.0, (parts.1, parts.2, refl))
  body_denotes c (body.Net ports instances rules) h = let parts = parts_denote instances h in (Net c.provides c.requires_ parts.1 c.constraints, parts.0, (parts.1, parts.2, refl))

  module _ (files : List SourceFile) (ranks : List ℕ) (tables : List Table) (types : Types) (are : AreSourcesOf files tables types sources) (fronts : AreFronts sources (front_of files types))
      (fall : AreRanks (length files) (references files) ranks) (none : library_faults files types ≡ [])
      (denote : (rank : List ℕ → ℕ) (k : ℕ) → AreRanked sources rank k → (params : List (List ℕ)) (bindings : List Binding) → Matches params bindings → (r : ℕ) (q : RefTree) → FallsIn sources rank k params r q → (X : Design) × Denotes sources bindings q X) where
    -- The source of a design denotes one.
    source_denotes : (i : ℕ) (s : Source) → slice_get sources i ≡ Some s → is_closed s.tree ≡ true → (X : Design) × FileDenotes sources s X
    source_denotes i s e closed =
        let f = file_of_source files tables types sources are i s e in
        let tree = tree_same files tables types i f.0 s f.2 in
        let b = closed_body s.tree closed in
        let falls = file_falls files ranks tables types sources are fronts fall none i f.0 b.0 f.1 (body_of_file files tables types i f.0 s b.0 f.2 b.1) in
        let ranked = sources_ranked files ranks tables types sources are fronts fall none in
        let rank = rank_of files ranks in
        let params : params_of f.0.tree ≡ [] = ap params_of (sym tree) ∙ b.2 in
        let means = body_denotes s.content b.0
        (λ x m. denote rank (depth files) ranked [] [] (λ name. refl) (slice_index ranks i) x.reference
        (subst (λ ps. FallsIn sources rank (depth files) ps (slice_index ranks i) x.reference) params
        (each_got (λ (y : BranchTree). FallsIn sources rank (depth files) (params_of f.0.tree) (slice_index ranks i) y.reference) (branches_of b.0) x falls m))) in
        (means.0, record { body = b.0; body_is = b.1; steps = means.1; denotes = means.2 })

    -- Each design of the library is one.
    pub design_made : (f : SourceFile) → IsMember f files → is_closed f.tree ≡ true → (X : Design) × IsDesign files tables types f.stem X
    design_made f m closed =
        let at = member_got files f m in
        let own = are.each at.0 f at.1 in
        let tree = tree_same files tables types at.0 f own.0 own.2 in
        let stem = stem_same files tables types at.0 f own.0 own.2 in
        let s = found (λ (x : Source). is_closed x.tree && bytes_eq f.stem x.stem) sources own.0 (got_member sources at.0 own.0 own.1)
        (both (is_closed own.0.tree) (bytes_eq f.stem own.0.stem) (ap is_closed tree ∙ closed) ((bytes_eq-Decides f.stem own.0.stem).1 (sym stem))) in
        let place = member_got sources s.0 s.2 in
        let X = source_denotes place.0 s.0 place.1 (first (is_closed s.0.tree) (bytes_eq f.stem s.0.stem) s.3) in
        (X.0, record { sources = sources; are_sources = are; denotes = record { source = s.0; there = s.1; denotes = X.1 } })
