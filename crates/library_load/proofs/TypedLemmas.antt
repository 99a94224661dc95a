-- Each file of a library without faults is typed, as far as it is known without what its references denote.
use Rattle.std.proofs.Common.{◌≡◌, ◌∙◌, ◌<◌, ◌≤◌, ◌^◌, arith, refl, sym, ap, subst, ℕ, IsTrue, List, [], ◌∷◌, ◌++◌, length, map}
use Rattle.std.specs.List.{list_all}
use Rattle.std.specs.Prelude.{◌&&◌, Option, Some, None, slice_get}
use Rattle.std.specs.Str.{bytes_eq}
use Rattle.catalogue_read.specs.Catalogues.{Catalogue, HasRows, catalogue_in, catalogue_of}
use Rattle.design_lexer.specs.declared.tree.BodyTree.{BodyTree}
use Rattle.design_lexer.specs.declared.tree.BodyTree.TheVariants as body
use Rattle.design_lexer.specs.declared.tree.BranchTree.{BranchTree}
use Rattle.design_lexer.specs.declared.tree.File.{File}
use Rattle.design_lexer.specs.declared.tree.File.TheVariants as file
use Rattle.design_lexer.specs.declared.tree.ParamTree.{ParamTree}
use Rattle.design_lexer.specs.declared.tree.PortTree.{PortTree}
use Rattle.design_lexer.specs.declared.tree.RuleTree.{RuleTree}
use Rattle.design_lexer.specs.declared.tree.RuleTree.TheVariants as rule
use Rattle.design_lexer.specs.declared.tree.Side.{Side}
use Rattle.design_lexer.specs.declared.tree.Side.TheVariants.{Provides, Requires}
use Rattle.design_model.specs.Typed.{ArePorts, ConstraintIsTyped, IsTyped, is_port, row_is_typed}
use Rattle.design_model.specs.Wiring.{Wiring}
use Rattle.design_model.specs.declared.design.CatRow.{CatRow}
use Rattle.design_model.specs.declared.design.Design.{Design}
use Rattle.design_model.specs.declared.expr.Constraint.{Constraint}
use Rattle.library_files.specs.Branches.{BodyHasBranch, HasBranch, TreeHasBranch}
use Rattle.library_load.proofs.FrontLemmas.{branch_known, choice_is, file_clean, fronts_clean, fronts_known, ports_are, wanted_front}
use Rattle.library_load.proofs.MeaningLemmas.{closed_body}
use Rattle.library_load.proofs.SourceLemmas.{body_of_file, file_of_named, file_of_source, member_got, tree_same}
use Rattle.library_load.specs.Designs.{HasFewRows, IsDesign}
use Rattle.module_link.specs.Contents.{IsSourceOf, content_of}
use Rattle.name_rules.specs.Sizes.{IsSmall, IsSmallBody}
use Rattle.name_table.specs.Library.{AreSmall}
use Rattle.name_table.specs.SmallLaws.{small_at}
use Rattle.name_table.specs.declared.source.SourceFile.{SourceFile}
use Rattle.name_table.specs.declared.source.Table.{Table}
use Rattle.order_core.specs.MemberLaws.{append_nil, first, got_member}
use Rattle.order_core.specs.Pointwise.{Each}
use Rattle.order_core.specs.PointwiseLaws.{each_got}
use Rattle.reference_check.specs.LibraryFronts.{front_of, library_faults, wanted_of}
use Rattle.reference_meaning.specs.Denotes.{FileDenotes}
use Rattle.reference_meaning.specs.Sources.{params_of as params_in}
use Rattle.reference_meaning.specs.Sources.{Source, body_of, branches_of, is_closed, source_named}
use Rattle.reference_rules.proofs.TypedMeaning.{kinds_outlined}
use Rattle.reference_rules.specs.Outlines.{Outlines}
use Rattle.reference_rules.specs.ReferenceFaults.{AreFronts, Front, NoFaults, reference_faults}
use Rattle.reference_rules.specs.ReferenceLaws.{found_passes}
use Rattle.reference_rules.specs.TypedFiles.{IsTypedFile, kinds_of, known_at, known_wiring}
use Rattle.side_ports.specs.SideLaws.{side_few}
use Rattle.side_ports.specs.Sides.{side_ports, sides_of}
use Rattle.tree_units.specs.Posets.{poset_place}
use Rattle.unit_check.specs.Constraints.{constraint_by, constraint_of, constraints_of, scope_wiring}
use Rattle.unit_check.specs.Declaring.{choice_of, next_file, params_of, part_ports, parts_of, ports_at, ports_in}
use Rattle.unit_check.specs.PortLaws.{parts_few, ports_few}
use Rattle.unit_check.specs.RuleLaws.{none_mapped, rules_faultless}
use Rattle.unit_check.specs.Rules.{rules_faults}
use Rattle.unit_check.specs.Scopes.{PartPorts, ScopePorts, Target, part_scope, scope_at}
use Rattle.unit_check.specs.TypeFaults.{rules_of, type_faults}
use Rattle.value_type.specs.PortKinds.{port_kinds}
use Rattle.value_type.specs.declared.poset.Types.{Types}

-- ---- a file by its body

parts_are : (tree : File) (b : BodyTree) → body_of tree ≡ Some b → parts_of tree ≡ branches_of b
parts_are (file.Poset poset) b e = absurd (cc)
parts_are (file.Interface ports) b e = absurd (cc)
parts_are (file.Design c) b e = let same : c ≡ b = cc in go c ∙ ap branches_of same
  where
    go : (c : BodyTree) → parts_of (file.Design c) ≡ branches_of c
    go (body.Catalogue ports rows table) = refl
    go (body.Choose branches) = refl
    go (body.Net ports parts rules) = refl
parts_are (file.Template params c) b e = let same : c ≡ b = cc in go c ∙ ap branches_of same
  where
    go : (c : BodyTree) → parts_of (file.Template params c) ≡ branches_of c
    go (body.Catalogue ports rows table) = refl
    go (body.Choose branches) = refl
    go (body.Net ports parts rules) = refl

catalogue_is : (tree : File) (b : BodyTree) → body_of tree ≡ Some b → catalogue_of tree ≡ catalogue_in b
catalogue_is (file.Poset poset) b e = absurd (cc)
catalogue_is (file.Interface ports) b e = absurd (cc)
catalogue_is (file.Design c) b e = let same : c ≡ b = cc in ap catalogue_in same
catalogue_is (file.Template params c) b e = let same : c ≡ b = cc in ap catalogue_in same

branch_is : (tree : File) (b : BodyTree) → body_of tree ≡ Some b → TreeHasBranch tree → BodyHasBranch b
branch_is (file.Poset poset) b e h = absurd (cc)
branch_is (file.Interface ports) b e h = absurd (cc)
branch_is (file.Design c) b e h = let same : c ≡ b = cc in subst BodyHasBranch same h
branch_is (file.Template params c) b e h = let same : c ≡ b = cc in subst BodyHasBranch same h

-- A file without parameters wants no ports.
no_params : (files : List SourceFile) (types : Types) (tree : File) → params_in tree ≡ [] → map (wanted_of files types) (params_of tree) ≡ []
no_params files types (file.Poset poset) e = refl
no_params files types (file.Interface ports) e = refl
no_params files types (file.Design b) e = refl
no_params files types (file.Template params b) e = ap (map (wanted_of files types)) (none_mapped (λ (p : ParamTree). p.name.name) params e)

-- ---- constraints are few

body_rules_few : (b : BodyTree) → IsSmallBody b → length (rules_of (file.Design b)) < 2 ^ 32
body_rules_few (body.Catalogue ports rows table) small = omega arith
body_rules_few (body.Choose branches) small = omega arith
body_rules_few (body.Net ports parts rules) small = small.2

rules_few : (f : File) → IsSmall f → length (rules_of f) < 2 ^ 32
rules_few (file.Poset poset) small = omega arith
rules_few (file.Interface ports) small = omega arith
rules_few (file.Design b) small = body_rules_few b small
rules_few (file.Template params b) small = body_rules_few b small.1

constraints_few : (types : Types) (scope : ScopePorts) (rules : List RuleTree) → length (constraints_of types scope rules) ≤ length rules
constraints_few types scope [] = omega arith
constraints_few types scope (r ∷ rules) = joined (constraint_of types scope r) (one r) (constraints_few types scope rules)
  where
    by : (t : Option Target) (l : _) → length (constraint_by t l) ≤ 1
    by (Some t) (Some l) = omega arith
    by (Some t) None = omega arith
    by None l = omega arith

    one : (r : RuleTree) → length (constraint_of types scope r) ≤ 1
    one (rule.Above place lower) = by _ _
    one (rule.Ignore place) = omega arith

    joined : (cs : List Constraint) → length cs ≤ 1 → length (constraints_of types scope rules) ≤ length rules → length (cs ++ constraints_of types scope rules) ≤ length (r ∷ rules)
    joined [] l k = omega (arith, k)
    joined (c ∷ []) l k = omega (arith, k)
    joined (c ∷ d ∷ cs) l k = absurd (omega (arith, l))

-- ---- the wiring of a net

module _ (files : List SourceFile) (types : Types) where
  -- The types of the ports of parts are those that are known of the branches.
  provided_known : (params : List ParamTree) (bs : List BranchTree)
      → map (λ (p : PartPorts). port_kinds p.ports.provides) (map (part_scope files types params) bs) ≡ map (λ b. kinds_of (known_at types (front_of files types) (map (wanted_of files types) params) b).provides) bs
  provided_known params [] = refl
  provided_known params (b ∷ bs) =
      let head = sym (kinds_outlined (sides_of types (part_ports files params b)).provides) ∙ ap (λ (o : Outlines). kinds_of o.provides) (sym (branch_known files types params b)) in
      let tail = provided_known params bs in
      λ i. head i ∷ tail i

  required_known : (params : List ParamTree) (bs : List BranchTree)
      → map (λ (p : PartPorts). port_kinds p.ports.requires_) (map (part_scope files types params) bs) ≡ map (λ b. kinds_of (known_at types (front_of files types) (map (wanted_of files types) params) b).requires_) bs
  required_known params [] = refl
  required_known params (b ∷ bs) =
      let head = sym (kinds_outlined (sides_of types (part_ports files params b)).requires_) ∙ ap (λ (o : Outlines). kinds_of o.requires_) (sym (branch_known files types params b)) in
      let tail = required_known params bs in
      λ i. head i ∷ tail i

  wiring_known : (i : ℕ) (f : SourceFile) (rows : List CatRow) (instances : List BranchTree) → ports_at files i ≡ ports_in f.tree → parts_of f.tree ≡ instances
      → scope_wiring (scope_at files types i f.tree) (constraints_of types (scope_at files types i f.tree) (rules_of f.tree)) ≡ known_wiring types (front_of files types) (map (wanted_of files types) (params_of f.tree)) (content_of files types i f rows) instances
  wiring_known i f rows instances own parts =
      let params = params_of f.tree in
      let known = λ (b : BranchTree). known_at types (front_of files types) (map (wanted_of files types) params) b in
      let provided = provided_known params (parts_of f.tree) ∙ ap (map (λ b. kinds_of (known b).provides)) parts in
      let required = required_known params (parts_of f.tree) ∙ ap (map (λ b. kinds_of (known b).requires_)) parts in
      λ j. record {
        provides = port_kinds (sides_of types (own j)).provides;
        requires_ = port_kinds (sides_of types (own j)).requires_;
        provided = provided j;
        required = required j;
        constraints = constraints_of types (scope_at files types i f.tree) (rules_of f.tree);
      }

  -- ---- the files

  module _ (tables : List Table) (small : ∥ AreSmall files ∥₁) (branched : Each HasBranch files)
      (own : (i : ℕ) (f : SourceFile) → slice_get files i ≡ Some f → choice_of f.tree ≡ None → ports_at files i ≡ ports_in f.tree)
      (ports_typed : (side : Side) (trees : List PortTree) → IsTrue (list_all (is_port types) (side_ports (poset_place types) side trees)))
      (rows_typed : (f : SourceFile) (c : Catalogue) (rows : List CatRow) → catalogue_of f.tree ≡ Some c → HasRows tables types f rows → IsTrue (list_all (row_is_typed types (sides_of types c.ports).provides (sides_of types c.ports).requires_) rows))
      (rules_typed : (scope : ScopePorts) (rules : List RuleTree) → rules_faults types scope rules ≡ [] → Each (ConstraintIsTyped types (scope_wiring scope (constraints_of types scope rules))) (constraints_of types scope rules))
      (none : type_faults files types ≡ []) where
    declared_ports : (i : ℕ) (f : SourceFile) → slice_get files i ≡ Some f → (side : Side) → ArePorts types (side_ports (poset_place types) side (ports_in f.tree))
    declared_ports i f got side =
        let ports = side_ports (poset_place types) side (ports_in f.tree) in
        record { few = side_few (poset_place types) side (ports_in f.tree) ports [] (sym (append_nil ports)) (ports_few f.tree (small_at files i f small got)); each = ports_typed side (ports_in f.tree) }

    -- A file is typed.
    pub file_typed : (i : ℕ) (f : SourceFile) (rows : List CatRow) (b : BodyTree) → slice_get files i ≡ Some f → body_of f.tree ≡ Some b → HasRows tables types f rows → length rows < 2 ^ 32
        → IsTypedFile types (front_of files types) (map (wanted_of files types) (params_of f.tree)) (content_of files types i f rows) b
    file_typed i f rows (body.Catalogue ports trees table) got is has few = record {
      provided_ports = declared_ports i f got Provides;
      required_ports = declared_ports i f got Requires;
      few_rows = few;
      rows_fit = subst (λ ps. IsTrue (list_all (row_is_typed types (sides_of types ps).provides (sides_of types ps).requires_) rows)) (sym (ports_are f.tree _ is)) (rows_typed f _ rows (catalogue_is f.tree _ is) has);
    }
    file_typed i f rows (body.Choose branches) got is has few = (branch_is f.tree _ is (each_got HasBranch files f branched (got_member files i f got)), subst (λ bs. length bs < 2 ^ 32) (parts_are f.tree _ is) (parts_few f.tree (small_at files i f small got)))
    file_typed i f rows (body.Net ports instances rules) got is has few =
        let is_small = small_at files i f small got in
        let scope = scope_at files types i f.tree in
        let some = rules_few f.tree is_small in
        let fewer = constraints_few types scope (rules_of f.tree) in
        let wiring = wiring_known i f rows instances (own i f got (choice_is f.tree _ is)) (parts_are f.tree _ is) in
        record {
          provided_ports = declared_ports i f got Provides;
          required_ports = declared_ports i f got Requires;
          few_parts = subst (λ bs. length bs < 2 ^ 32) (parts_are f.tree _ is) (parts_few f.tree is_small);
          few_constraints = omega (arith, some, fewer);
          each_constraint = subst (λ (net : Wiring). Each (ConstraintIsTyped types net) (constraints_of types scope (rules_of f.tree))) wiring (rules_typed scope (rules_of f.tree) (rules_faultless files types none i f got));
        }

    -- What a design of the library is.
    module _ (files_few : Each (HasFewRows tables types) files) (faultless : library_faults files types ≡ []) (firsts : (i j : ℕ) → next_file files i ≡ Some j → ports_at files i ≡ ports_at files j)
        (designs_typed : (sources : List Source) → AreFronts sources (front_of files types) → NoFaults sources (front_of files types)
        → ((name : List ℕ) (s : Source) (b : BodyTree) (f : Front) → source_named sources name ≡ Some s → body_of s.tree ≡ Some b → front_of files types name ≡ Some f → IsTypedFile types (front_of files types) f.wanted s.content b)
        → (source : Source) (b : BodyTree) (X : Design) → body_of source.tree ≡ Some b → reference_faults (front_of files types) [] b ≡ [] → IsTypedFile types (front_of files types) [] source.content b → FileDenotes sources source X → IsTyped types X) where
      source_typed : (i : ℕ) (f : SourceFile) (s : Source) (b : BodyTree) → slice_get files i ≡ Some f → IsSourceOf files tables types i f s → body_of f.tree ≡ Some b → IsTypedFile types (front_of files types) (map (wanted_of files types) (params_of f.tree)) s.content b
      source_typed i f s b got is body_is =
          subst (λ c. IsTypedFile types (front_of files types) (map (wanted_of files types) (params_of f.tree)) c b) (sym (ap (λ (x : Source). x.content) is.is))
          (file_typed i f is.rows b got body_is is.has (each_got (HasFewRows tables types) files f files_few (got_member files i f got) is.rows is.has))

      pub design_typed : (name : List ℕ) (X : Design) → IsDesign files tables types name X → IsTyped types X
      design_typed name X d =
          let sources = d.sources in
          let are = d.are_sources in
          let s = d.denotes.source in
          let passes = found_passes (λ (x : Source). is_closed x.tree && bytes_eq name x.stem) sources s d.denotes.there in
          let place = member_got sources s passes.0 in
          let f = file_of_source files tables types sources are place.0 s place.1 in
          let tree = tree_same files tables types place.0 f.0 s f.2 in
          let b = closed_body s.tree (first (is_closed s.tree) (bytes_eq name s.stem) passes.1) in
          let of_file = body_of_file files tables types place.0 f.0 s b.0 f.2 b.1 in
          let none_wanted = no_params files types f.0.tree (ap params_in (sym tree) ∙ b.2) in
          designs_typed sources (fronts_known files types firsts own tables sources are) (fronts_clean files types faultless tables sources are)
          (λ n t c g named is front.
          let at = file_of_named files tables types sources are n t named in
          let is_file = body_of_file files tables types at.0 at.1 t c at.4 is in
          subst (λ ws. IsTypedFile types (front_of files types) ws t.content c) (wanted_front files types n at.0 at.1 c g at.2 at.3 is_file front) (source_typed at.0 at.1 t c at.3 at.4 is_file))
          s b.0 X b.1
          (subst (λ ws. reference_faults (front_of files types) ws b.0 ≡ []) none_wanted (file_clean files types faultless place.0 f.0 b.0 f.1 of_file))
          (subst (λ ws. IsTypedFile types (front_of files types) ws s.content b.0) none_wanted (source_typed place.0 f.0 s b.0 f.1 f.2 of_file))
          d.denotes.denotes
