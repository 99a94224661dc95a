-- When a library is accepted, and otherwise which fault it is refused for.
use Rattle.std.specs.Prelude.{◌≡◌, ◌<◌, ◌≤◌, ◌⊎◌, ℕ, true, List, [], Some}
use Rattle.catalogue_read.specs.Catalogues.{HasBadRow, HasSomeRows}
use Rattle.design_measure.specs.Measures.{depth_of, size_of}
use Rattle.design_model.specs.declared.design.Design.{Design}
use Rattle.fault_list.specs.Faults.{first_fault}
use Rattle.fault_list.specs.FirstBad.{IsFirstBad}
use Rattle.fault_list.specs.declared.fault.FaultKind.TheVariants.{TooDeep, TooLarge}
use Rattle.fault_list.specs.declared.fault.FileFault.{FileFault}
use Rattle.library_load.specs.Designs.{IsDesign}
use Rattle.name_table.specs.Library.{ArePosets}
use Rattle.name_table.specs.NameFaults.{name_faults}
use Rattle.name_table.specs.declared.source.SourceFile.{SourceFile}
use Rattle.name_table.specs.declared.source.Table.{Table}
use Rattle.order_core.specs.Pointwise.{Each}
use Rattle.reference_check.specs.LibraryFronts.{library_faults}
use Rattle.reference_meaning.specs.Sources.{is_closed}
use Rattle.unit_check.specs.Connection.{connection_faults}
use Rattle.unit_check.specs.TypeFaults.{type_faults}
use Rattle.value_type.specs.declared.poset.Types.{Types}

-- The design passes a limit, and this is the fault of its file; the depth counts first.
abbrev pub PassesLimit : List ℕ → Design → FileFault → Type 0
PassesLimit file X fault =
    ((64 < depth_of X) × (fault ≡ record { file = file; kind = TooDeep; at = 0 }))
    ⊎ ((depth_of X ≤ 64) × (10000 < size_of X) × (fault ≡ record { file = file; kind = TooLarge; at = 0 }))

module _ (files : List SourceFile) (tables : List Table) (types : Types) where
  -- A design that is within the limits: at most 64 deep and at most 10,000 large.
  abbrev pub IsInLimits : SourceFile → Type 0
  IsInLimits f = is_closed f.tree ≡ true → (X : Design) × IsDesign files tables types f.stem X × (depth_of X ≤ 64) × (size_of X ≤ 10000)

  -- A design that passes a limit.
  pub record IsPastLimit (f : SourceFile) (fault : FileFault) : Type 0 where
    pub closed : is_closed f.tree ≡ true
    pub design : Design
    pub is_design : IsDesign files tables types f.stem design
    pub passes : PassesLimit f.name design fault

  -- No stage has a fault.
  pub record KeepsRules : Type 0 where
    pub names : name_faults files tables ≡ []
    pub posets : ArePosets files types.posets
    pub typed : type_faults files types ≡ []
    pub connected : connection_faults files ≡ []
    pub rows : Each (HasSomeRows tables types) files
    pub references : library_faults files types ≡ []
    pub limits : Each IsInLimits files

-- A stage has the fault, or it has none, and a later one has it.
abbrev pub Stage : Type 0 → Type 0 → Type 0 → Type 0
Stage Faultless Fails Later = Fails ⊎ (Faultless × Later)

-- It is the first fault of the stages after that of names: types, connection, rows, references and limits.
abbrev pub IsFirstAfter : List SourceFile → List Table → Types → FileFault → Type 0
IsFirstAfter files tables types fault =
    Stage (type_faults files types ≡ []) (first_fault (type_faults files types) ≡ Some fault)
    (Stage (connection_faults files ≡ []) (first_fault (connection_faults files) ≡ Some fault)
    (Stage (Each (HasSomeRows tables types) files) (IsFirstBad (HasSomeRows tables types) (HasBadRow tables types) files fault)
    (Stage (library_faults files types ≡ []) (first_fault (library_faults files types) ≡ Some fault)
    (IsFirstBad (IsInLimits files tables types) (IsPastLimit files tables types) files fault))))

-- It is the first fault of all stages from that of names on.
abbrev pub IsFirstFault : List SourceFile → List Table → FileFault → Type 0
IsFirstFault files tables fault =
    Stage (name_faults files tables ≡ []) (first_fault (name_faults files tables) ≡ Some fault)
    ((types : Types) × ArePosets files types.posets × IsFirstAfter files tables types fault)
