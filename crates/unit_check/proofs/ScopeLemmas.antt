-- What a table has of the ports of files, and the files gone through by their numbers.
use Rattle.std.proofs.Common.{◌≡◌, ◌∙◌, ◌<◌, ◌≤◌, ◌+◌, ◌⊎◌, inl, inr, arith, refl, sym, ap, subst, ℕ, zero, suc, List, [], ◌∷◌, ◌++◌, drop, length, set}
use Rattle.std.proofs.lemmas.List.{drop_more, length-set}
use Rattle.std.proofs.lemmas.Option.{slice_get_cases, slice_get_read}
use Rattle.std.specs.List.{flat_map}
use Rattle.std.specs.Prelude.{Option, Some, None, get_or, map, slice_get}
use Rattle.design_lexer.specs.declared.tree.BranchTree.{BranchTree}
use Rattle.design_lexer.specs.declared.tree.File.{File}
use Rattle.design_lexer.specs.declared.tree.ParamTree.{ParamTree}
use Rattle.fault_list.specs.declared.fault.FileFault.{FileFault}
use Rattle.name_index.specs.Names.{number_of}
use Rattle.name_index.specs.Places.{place_of}
use Rattle.std.specs.Str.{bytes_eq}
use Rattle.name_rules.specs.Sizes.{IsSmall}
use Rattle.name_table.specs.Library.{AreSmall}
use Rattle.name_table.specs.SmallLaws.{small_at}
use Rattle.name_table.specs.declared.source.SourceFile.{SourceFile}
use Rattle.side_ports.specs.Held.{sides_held}
use Rattle.side_ports.specs.Sides.{sides_of}
use Rattle.side_ports.specs.declared.ports.SidePorts.{SidePorts}
use Rattle.unit_check.proofs.PlaceLemmas.{position_mapped}
use Rattle.unit_check.specs.Declaring.{declaring, params_of, parts_of, ports_at, ports_in, tree_ports}
use Rattle.unit_check.specs.Following.{AreDeclaring}
use Rattle.unit_check.specs.Held.{IsKnown, IsTable, part_held}
use Rattle.unit_check.specs.Scopes.{PartPorts, part_scope, scope_at}
use Rattle.unit_check.specs.TypeFaults.{declared_by, declared_faults, file_port_faults, file_rule_faults, part_faults, rule_faults_from, scope_faults}
use Rattle.unit_check.specs.declared.scope.ScopePart.{ScopePart}
use Rattle.unit_check.specs.declared.table.PortTable.{PortTable}
use Rattle.value_type.specs.declared.poset.Types.{Types}

-- A file is the one at its place.
pub same_file : (files : List SourceFile) (i : ℕ) (f g : SourceFile) → slice_get files i ≡ Some f → g ≡ get_or files i g → i < length files → g ≡ f
same_file files i f g got is inside = let other = slice_get_read files (length files) i g refl inside is in cc

pub file_small : (files : List SourceFile) (i : ℕ) (f : SourceFile) → ∥ AreSmall files ∥₁ → f ≡ get_or files i f → i < length files → IsSmall f.tree
file_small files i f small is inside = small_at files i f small (slice_get_read files (length files) i f refl inside is)

-- ---- what a table has

got_set : {A : Type 0} (xs : List A) (i j : ℕ) (x y : A) → slice_get (set xs i x) j ≡ Some y → (slice_get xs j ≡ Some y) ⊎ ((i ≡ j) × (x ≡ y))
got_set [] i j x y e = inl e
got_set (z ∷ zs) zero zero x y e = let is : x ≡ y = cc in inr (refl, is)
got_set (z ∷ zs) zero (suc j) x y e = inl e
got_set (z ∷ zs) (suc i) zero x y e = inl e
got_set (z ∷ zs) (suc i) (suc j) x y e = go (got_set zs i j x y e)
  where
    go : (slice_get zs j ≡ Some y) ⊎ ((i ≡ j) × (x ≡ y)) → (slice_get zs j ≡ Some y) ⊎ ((suc i ≡ suc j) × (x ≡ y))
    go (inl f) = inl f
    go (inr p) = inr (ap suc p.0, p.1)

module _ (files : List SourceFile) (types : Types) where
  -- One file more is known.
  pub kept : (table after : PortTable) (i : ℕ) (ports : SidePorts) → IsTable files types table → IsKnown files types i ports → after.declaring ≡ table.declaring → after.known.items ≡ set table.known.items i (Some ports) → IsTable files types after
  kept table after i ports is known same new = record {
    declaring = subst (AreDeclaring files) (sym same) is.declaring;
    size = ap length new ∙ length-set table.known.items i (Some ports) ∙ is.size;
    each = λ j others e. go j others (got_set table.known.items i j (Some ports) (Some others) (sym (ap (λ (known : List (Option SidePorts)). slice_get known j) new) ∙ e));
  }
    where
      go : (j : ℕ) (others : SidePorts) → (slice_get table.known.items j ≡ Some (Some others)) ⊎ ((i ≡ j) × (Some ports ≡ Some others)) → IsKnown files types j others
      go j others (inl e) = is.each j others e
      go j others (inr p) = let ports_same : ports ≡ others = cc in subst (λ (k : ℕ). IsKnown files types k others) p.0 (subst (IsKnown files types i) ports_same known)

  -- What is worked out of a file is known of it.
  pub known_at : (i : ℕ) (f : SourceFile) (ports : SidePorts) → slice_get files i ≡ Some f → file_port_faults types f ≡ [] → sides_held ports ≡ sides_of types (ports_in f.tree) → IsKnown files types i ports
  known_at i f ports got none are = record { faultless = ap (declared_by types) got ∙ none; ports_are = are ∙ ap (λ (o : Option SourceFile). sides_of types (tree_ports o)) (sym got) }

  -- The parts of a scope have the places of its file's branches or instances.
  pub parts_numbered : (params : List ParamTree) (branches : List BranchTree) (made : List ScopePart) (numbers : List (List ℕ × ℕ)) → map part_held made ≡ map (part_scope files types params) branches
      → ((name : List ℕ) → number_of numbers name ≡ place_of (λ (b : BranchTree). b.name.name) branches name) → (name : List ℕ) → number_of numbers name ≡ place_of (λ (p : ScopePart). p.name) made name
  parts_numbered params branches made numbers e h name =
      h name ∙ sym (position_mapped (λ (p : PartPorts). bytes_eq name p.name) (part_scope files types params) 0 branches) ∙ ap (λ (ps : List PartPorts). place_of (λ (p : PartPorts). p.name) ps name) (sym e)
      ∙ position_mapped (λ (p : PartPorts). bytes_eq name p.name) part_held 0 made

  -- A scope of which these are the ports and the parts.
  module _ (i : ℕ) (f : File) (params : List ParamTree) (branches : List BranchTree) (params_are : params ≡ params_of f) (branches_are : branches ≡ parts_of f) where
    -- Where its own ports have no fault, those of its parts are left.
    pub scope_rest : declared_faults files types (declaring files i) ≡ [] → scope_faults files types i f ≡ flat_map (part_faults files types params) branches
    scope_rest e = λ j. e j ++ flat_map (part_faults files types (sym params_are j)) (sym branches_are j)

    pub scope_is : (own : SidePorts) (made : List ScopePart) → sides_held own ≡ sides_of types (ports_at files i) → map part_held made ≡ map (part_scope files types params) branches → record { own = sides_held own; parts = map part_held made } ≡ scope_at files types i f
    scope_is own made e h = λ j. record { own = e j; parts = (h ∙ (λ k. map (part_scope files types (params_are k)) (branches_are k))) j }

  -- ---- the files gone through by their numbers

  pub ports_next : (whole : List FileFault) (k : ℕ) → k < length files → whole ≡ flat_map (file_port_faults types) (drop k files) → whole ≡ declared_faults files types k ++ flat_map (file_port_faults types) (drop (k + 1) files)
  ports_next whole k inside left = left ∙ go (slice_get_cases files k).1
    where
      rest : List FileFault
      rest = flat_map (file_port_faults types) (drop (k + 1) files)

      go : ((x : SourceFile) × (k < length files) × (slice_get files k ≡ Some x) × (get_or files k x ≡ x)) ⊎ ((length files ≤ k) × (slice_get files k ≡ None)) → flat_map (file_port_faults types) (drop k files) ≡ declared_faults files types k ++ rest
      go (inl w) =
          ap (flat_map (file_port_faults types)) (drop_more files k w.0 inside ∙ ap (λ (y : SourceFile). y ∷ drop (k + 1) files) w.3)
          ∙ ap (λ (o : Option SourceFile). declared_by types o ++ rest) (sym w.2)
      go (inr w) = absurd (omega (arith, inside, w.0))

  pub rules_next : (whole : List FileFault) (k : ℕ) (f : SourceFile) → k < length files → f ≡ get_or files k f → whole ≡ rule_faults_from files types k (drop k files) → whole ≡ file_rule_faults files types k f ++ rule_faults_from files types (k + 1) (drop (k + 1) files)
  rules_next whole k f inside is left = left ∙ ap (rule_faults_from files types k) (drop_more files k f inside ∙ ap (λ (y : SourceFile). y ∷ drop (k + 1) files) (sym is))
