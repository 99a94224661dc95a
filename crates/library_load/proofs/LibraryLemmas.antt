-- The design of a name, by the module that a library has of it.
use Rattle.std.proofs.Common.{◌≡◌, ◌∙◌, ◌≤◌, ◌&&◌, refl, sym, ap, subst, ℕ, true, false, List, []}
use Rattle.std.proofs.lemmas.Slice.Eq.{bytes_eq-Decides}
use Rattle.std.specs.Prelude.{MatchOption, Option, Some, None, option_and_then, slice_get}
use Rattle.std.specs.Str.{bytes_eq}
use Rattle.catalogue_read.specs.Catalogues.{HasRows}
use Rattle.design_lexer.specs.declared.tree.BodyTree.{BodyTree}
use Rattle.design_measure.specs.Measures.{depth_of}
use Rattle.design_model.specs.declared.design.CatRow.{CatRow}
use Rattle.design_model.specs.declared.design.Design.{Design}
use Rattle.library_load.proofs.MadeLemmas.{design_makes}
use Rattle.library_load.proofs.MeaningLemmas.{closed_body, found}
use Rattle.library_load.proofs.PlacedLemmas.{closed_design, find_got, own_place}
use Rattle.library_load.proofs.SourceLemmas.{file_of_source, stem_found, stem_same, tree_same}
use Rattle.library_load.specs.Designs.{IsDesign, design_file}
use Rattle.library_load.specs.Loaded.{IsLibrary}
use Rattle.library_load.specs.Named.{IsModuleNamed}
use Rattle.library_load.specs.declared.library.Library.{Library}
use Rattle.name_table.specs.Files.{is_design, stem_place}
use Rattle.name_table.specs.NameFaults.{name_faults}
use Rattle.name_table.specs.declared.source.SourceFile.{SourceFile}
use Rattle.name_table.specs.declared.source.Table.{Table}
use Rattle.order_core.specs.MemberLaws.{first, got_member, second}
use Rattle.order_core.specs.PointwiseLaws.{each_got}
use Rattle.reference_meaning.specs.Denotes.{FileDenotes}
use Rattle.reference_meaning.specs.Linking.{IsModuleOf}
use Rattle.reference_meaning.specs.Modules.{ModuleMakes}
use Rattle.reference_meaning.specs.Sources.{Source, body_of, is_closed, params_of}
use Rattle.reference_meaning.specs.declared.module.Module.{Module}
use Rattle.value_type.specs.declared.poset.Types.{Types}

never_some : {A : Type 0} (o : Option A) → ((x : A) → o ≡ Some x → ⊥) → o ≡ None
never_some (Some x) h = absurd (h x refl)
never_some None h = refl

-- ---- the file of a design

-- Where a design has the name, the name stands for its file.
own_number : (files : List SourceFile) (tables : List Table) → name_faults files tables ≡ [] → (name : List ℕ) (g : SourceFile) → design_file files name ≡ Some g
    → (i : ℕ) × (stem_place is_design files name ≡ Some i) × (slice_get files i ≡ Some g) × (is_closed g.tree ≡ true)
own_number files tables none name g e =
    let got = find_got (λ (f : SourceFile). is_closed f.tree && bytes_eq name f.stem) files g e in
    let closed = first (is_closed g.tree) _ got.2 in
    let named : name ≡ g.stem = (bytes_eq-Decides name g.stem).0 (second (is_closed g.tree) _ got.2) in
    let place = own_place files tables none got.0 g got.1 (closed_design g.tree closed) in
    (got.0, ap (stem_place is_design files) named ∙ place, got.1, closed)

-- A name that stands for nothing is no design's.
pub no_place : (files : List SourceFile) (tables : List Table) → name_faults files tables ≡ [] → (name : List ℕ) → stem_place is_design files name ≡ None → design_file files name ≡ None
no_place files tables none name e = never_some (design_file files name) (λ g h. let own = own_number files tables none name g h in let place = own.1 in absurd (cc))

-- A name that stands for a template is no design's.
pub not_closed : (files : List SourceFile) (tables : List Table) → name_faults files tables ≡ [] → (name : List ℕ) (i : ℕ) (f : SourceFile) → stem_place is_design files name ≡ Some i → slice_get files i ≡ Some f → is_closed f.tree ≡ false → design_file files name ≡ None
not_closed files tables none name i f e there open_ = never_some (design_file files name) (λ g h.
    let own = own_number files tables none name g h in
    let place = own.1 in let got = own.2 in let closed = own.3 in
    let same : own.0 ≡ i = cc in let is : g ≡ f = cc in
    let closed_too : is_closed f.tree ≡ true = subst (λ (x : SourceFile). is_closed x.tree ≡ true) is closed in absurd (cc))

-- A name that has a design is that of a design's file.
pub design_there : (files : List SourceFile) (tables : List Table) (types : Types) (name : List ℕ) (X : Design) → IsDesign files tables types name X → design_file files name ≡ None → ⊥
design_there files tables types name X d e =
    let got = find_got (λ (s : Source). is_closed s.tree && bytes_eq name s.stem) d.sources d.denotes.source d.denotes.there in
    let f = file_of_source files tables types d.sources d.are_sources got.0 d.denotes.source got.1 in
    let tree = ap is_closed (tree_same files tables types got.0 f.0 d.denotes.source f.2) in
    let stem = ap (bytes_eq name) (stem_same files tables types got.0 f.0 d.denotes.source f.2) in
    let passes : is_closed f.0.tree && bytes_eq name f.0.stem ≡ true = sym (λ j. tree j && stem j) ∙ got.2 in
    let y = found (λ (g : SourceFile). is_closed g.tree && bytes_eq name g.stem) files f.0 (got_member files got.0 f.0 f.1) passes in
    let is = y.1 in absurd (cc)

module _ (library : Library) (is : IsLibrary library) (name : List ℕ) where
  -- The module of the file that the name stands for, where it is a design.
  pub module_named : (i : ℕ) (f : SourceFile) (o : Option Module) → stem_place is_design library.names.files name ≡ Some i → slice_get library.names.files i ≡ Some f → is_closed f.tree ≡ true
      → o ≡ option_and_then (λ m. m) (slice_get library.modules i) → MatchOption o (design_file library.names.files name ≡ None) (IsModuleNamed library name)
  module_named i f o place there closed found =
      let own = is.modules.are_sources.each i f there in
      let tree = tree_same library.names.files library.names.tables library.names.types i f own.0 own.2 in
      let b = closed_body own.0.tree (ap is_closed tree ∙ closed) in
      let m = is.modules.are_modules i own.0 b.0 own.1 b.1 in
      let g = stem_found library.names.files is_design name i place in
      let there_too = g.1 in let same : g.0 ≡ f = cc in
      subst (λ (p : Option Module). MatchOption p (design_file library.names.files name ≡ None) (IsModuleNamed library name)) (sym (found ∙ ap (option_and_then (λ m. m)) m.1))
      (record { number = i; file = f; place = place; there = there; closed = closed; is = subst (λ (x : SourceFile). bytes_eq name x.stem ≡ true) same g.3; held = m.1 })

  -- What the module makes.
  module _ (unique : (f : SourceFile) (rows others : List CatRow) → HasRows library.names.tables library.names.types f rows → HasRows library.names.tables library.names.types f others → rows ≡ others)
      (makes : (source : Source) (b : BodyTree) (m : Module) (X : Design) → body_of source.tree ≡ Some b → params_of source.tree ≡ [] → IsModuleOf is.modules.sources source b m → FileDenotes is.modules.sources source X → ModuleMakes library.modules m X) where
    pub named_makes : (m : Module) → IsModuleNamed library name m → (X : Design) × IsDesign library.names.files library.names.tables library.names.types name X × ModuleMakes library.modules m X × (depth_of X ≤ 64)
    named_makes m named =
        let X = each_got _ library.names.files named.file is.rules.limits (got_member library.names.files named.number named.file named.there) named.closed in
        let same : named.file.stem ≡ name = sym ((bytes_eq-Decides name named.file.stem).0 named.is) in
        let design = subst (λ (n : List ℕ). IsDesign library.names.files library.names.tables library.names.types n X.0) same X.1 in
        let made = design_makes library.names.files library.names.tables library.names.types library.modules is.modules unique makes name named.number named.file X.0 named.place named.there named.closed named.is design in
        let at = made.1 in let own = named.held in let is_m : made.0 ≡ m = cc in
        (X.0, design, subst (λ (n : Module). ModuleMakes library.modules n X.0) is_m made.2, X.2)
