-- What the modules of designs make.
use Rattle.std.proofs.Common.{◌≡◌, ◌∙◌, ◌+◌, ◌&&◌, arith, refl, ap, subst, ℕ, true, List, []}
use Rattle.std.proofs.lemmas.Slice.Eq.{bytes_eq-Decides}
use Rattle.std.specs.Prelude.{Some, is_some, slice_get}
use Rattle.std.specs.Str.{bytes_eq}
use Rattle.catalogue_read.specs.Catalogues.{HasRows}
use Rattle.design_lexer.specs.declared.tree.BodyTree.{BodyTree}
use Rattle.design_measure.specs.Measured.{AreMeasured}
use Rattle.design_measure.specs.declared.measures.Measured.{Measured}
use Rattle.design_model.specs.declared.design.CatRow.{CatRow}
use Rattle.design_model.specs.declared.design.Design.{Design}
use Rattle.library_load.proofs.MeaningLemmas.{closed_body}
use Rattle.library_load.proofs.LimitLemmas.{HasMeasure}
use Rattle.library_load.proofs.PlacedLemmas.{closed_design, first_found, own_place}
use Rattle.library_load.proofs.SourceLemmas.{place_same, sources_same, stem_same, tree_same}
use Rattle.library_load.specs.Designs.{IsDesign}
use Rattle.module_link.specs.Links.{AreModulesOf}
use Rattle.name_table.specs.Files.{is_design, stem_place}
use Rattle.name_table.specs.NameFaults.{name_faults}
use Rattle.name_table.specs.declared.source.SourceFile.{SourceFile}
use Rattle.name_table.specs.declared.source.Table.{Table}
use Rattle.order_core.specs.MemberLaws.{first, got_member, second}
use Rattle.order_core.specs.Members.{IsMember}
use Rattle.reference_meaning.specs.Denotes.{DesignDenotes, FileDenotes}
use Rattle.reference_meaning.specs.Linking.{IsModuleOf}
use Rattle.reference_meaning.specs.Modules.{ModuleMakes, Modules}
use Rattle.reference_meaning.specs.Sources.{Source, body_of, design_named, is_closed, params_of}
use Rattle.reference_meaning.specs.declared.module.Module.{Module}
use Rattle.value_type.specs.declared.poset.Types.{Types}

module _ (files : List SourceFile) (tables : List Table) (types : Types) (modules : Modules) (are : AreModulesOf files tables types modules)
    (unique : (f : SourceFile) (rows others : List CatRow) → HasRows tables types f rows → HasRows tables types f others → rows ≡ others)
    (makes : (source : Source) (b : BodyTree) (m : Module) (X : Design) → body_of source.tree ≡ Some b → params_of source.tree ≡ [] → IsModuleOf are.sources source b m → FileDenotes are.sources source X → ModuleMakes modules m X) where
  -- The design of a name, where the name stands for the design of this number.
  own_source : (name : List ℕ) (i : ℕ) (s : Source) → stem_place is_design files name ≡ Some i → slice_get are.sources i ≡ Some s → is_closed s.tree ≡ true → bytes_eq name s.stem ≡ true → design_named are.sources name ≡ Some s
  own_source name i s place got closed same =
      let at : i ≡ 0 + i = omega arith in
      first_found (λ (t : Source). is_some (body_of t.tree) && bytes_eq name t.stem) (λ t. is_closed t.tree && bytes_eq name t.stem) narrow 0 are.sources i s
      (place_same files tables types are.sources are.are_sources name ∙ place ∙ ap (λ (k : ℕ). Some k) at) got (λ j. closed j && same j)
    where
      narrow : (t : Source) → is_closed t.tree && bytes_eq name t.stem ≡ true → is_some (body_of t.tree) && bytes_eq name t.stem ≡ true
      narrow t e = let b = closed_body t.tree (first (is_closed t.tree) _ e) in λ j. ap is_some b.1 j && second (is_closed t.tree) (bytes_eq name t.stem) e j

  -- The module of a design makes what the design's name denotes.
  pub design_makes : (name : List ℕ) (i : ℕ) (f : SourceFile) (X : Design) → stem_place is_design files name ≡ Some i → slice_get files i ≡ Some f → is_closed f.tree ≡ true → bytes_eq name f.stem ≡ true → IsDesign files tables types name X
      → (m : Module) × (slice_get modules i ≡ Some (Some m)) × ModuleMakes modules m X
  design_makes name i f X place got closed same d =
      let own = are.are_sources.each i f got in
      let tree = tree_same files tables types i f own.0 own.2 in
      let stem = stem_same files tables types i f own.0 own.2 in
      let closed_source : is_closed own.0.tree ≡ true = ap is_closed tree ∙ closed in
      let found = own_source name i own.0 place own.1 closed_source (ap (bytes_eq name) stem ∙ same) in
      let sources = sources_same files tables types unique d.sources are.sources d.are_sources are.are_sources in
      let denotes : DesignDenotes are.sources name X = subst (λ (ss : List Source). DesignDenotes ss name X) sources d.denotes in
      let is : denotes.source ≡ own.0 = let there = denotes.there in cc in
      let b = closed_body own.0.tree closed_source in
      let m = are.are_modules i own.0 b.0 own.1 b.1 in
      (m.0, m.1, makes own.0 b.0 m.0 X b.1 b.2 m.2 (subst (λ (s : Source). FileDenotes are.sources s X) is denotes.denotes))

  -- What is measured of the design of a file.
  pub design_measured : name_faults files tables ≡ [] → ((f : SourceFile) → IsMember f files → is_closed f.tree ≡ true → (X : Design) × IsDesign files tables types f.stem X) → (measured : List Measured) → AreMeasured modules measured
      → (i : ℕ) (f : SourceFile) → slice_get files i ≡ Some f → is_closed f.tree ≡ true → (d : Measured) × (slice_get measured i ≡ Some d) × HasMeasure files tables types f d
  design_measured none meanings measured are_measured i f got closed =
      let X = meanings f (got_member files i f got) closed in
      let place = own_place files tables none i f got (closed_design f.tree closed) in
      let m = design_makes f.stem i f X.0 place got closed ((bytes_eq-Decides f.stem f.stem).1 refl) X.1 in
      let d = are_measured i m.0 X.0 m.1 m.2 in
      (d.0, d.1, record { design = X.0; is_design = X.1; depth = d.2; size = d.3 })
