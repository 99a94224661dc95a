-- Tables: their records, the rows that they mean, and the first record that is bad.
use Rattle.std.specs.Prelude.{◌≡◌, ◌<◌, ◌+◌, ◌⊎◌, ℕ, Bool, true, false, nat_eq, List, [], ◌∷◌, ◌++◌, length, drop, map, codes, Some, Result, Ok, Err}
use Rattle.std.specs.List.{list_any}
use Rattle.std.specs.Str.{bytes_eq}
use Rattle.csv.specs.Reading.{AreRecords, Reached, default_config, strip_bom}
use Rattle.csv.specs.Records.{field_at}
use Rattle.csv.specs.declared.parser.State.{State}
use Rattle.csv.specs.declared.parser.State.TheVariants as st
use Rattle.value_type.specs.declared.port.Port.{Port}
use Rattle.value_type.specs.declared.poset.Types.{Types}
use Rattle.value_type.specs.declared.value.Value.{Value}
use Rattle.design_model.specs.declared.design.CatRow.{CatRow}
use Rattle.fault_list.specs.declared.fault.Fault.{Fault}
use Rattle.fault_list.specs.declared.fault.FaultKind.{FaultKind}
use Rattle.fault_list.specs.declared.fault.FaultKind.TheVariants as fault
use Rattle.fault_list.specs.declared.fault.Stop.{Stop}
use Rattle.fault_list.specs.declared.fault.Stop.TheVariants as stop
use Rattle.row_values.specs.declared.value.Rounding.{Rounding}
use Rattle.row_values.specs.declared.value.Rounding.TheVariants as rounding
use Rattle.row_values.specs.Cells.{CellIs, IsName}

-- the cells of a record, as bytes
abbrev pub Record : Type 0
Record = List (List ℕ)

-- These are the records of the table.
abbrev pub TableHas : List ℕ → List Record → Type 0
TableHas bytes records = AreRecords default_config st.StartRecord (strip_bom bytes) records

-- The records of the table begin with these.
abbrev pub TableBegins : List ℕ → List Record → Type 0
TableBegins bytes records = (s : State) × (rest : List ℕ) × Reached default_config st.StartRecord (strip_bom bytes) records s rest

-- The cells begin with one for each port, and these mean the values.
abbrev pub CellsAre : Types → Rounding → List Port → Record → List Value → Type 0
CellsAre t r [] cells [] = Unit {0}
CellsAre t r [] cells (v ∷ vs) = ⊥
CellsAre t r (p ∷ ps) (c ∷ cs) (v ∷ vs) = CellIs t r p.kind c v × CellsAre t r ps cs vs
CellsAre t r (p ∷ ps) [] vs = ⊥
CellsAre t r (p ∷ ps) (c ∷ cs) [] = ⊥

-- The record has one cell for a name and one for each port.
abbrev pub is_wide : List Port → List Port → Record → Bool
is_wide provides requires_ record_ = nat_eq (length record_) (1 + length provides + length requires_)

-- The first cell is the row's name; its provided values follow, and then its required ones.
pub record RecordIs (t : Types) (provides requires_ : List Port) (cells : Record) (row : CatRow) : Type 0 where
  pub name_cell : List ℕ
  pub there : field_at cells 0 ≡ Some name_cell
  pub name : IsName name_cell row.name
  pub provided : CellsAre t rounding.Down provides (drop 1 cells) row.provided
  pub required : CellsAre t rounding.Up requires_ (drop (1 + length provides) cells) row.required

-- The cells begin with the names of the ports.
abbrev pub AreNames : List Port → Record → Type 0
AreNames [] cells = Unit {0}
AreNames (p ∷ ps) (c ∷ cs) = IsName c p.name × AreNames ps cs
AreNames (p ∷ ps) [] = ⊥

-- record 0: `name`, the names of the provided ports, and those of the required ones
pub record HeaderIs (provides requires_ : List Port) (cells : Record) : Type 0 where
  pub name_cell : List ℕ
  pub there : field_at cells 0 ≡ Some name_cell
  pub name : IsName name_cell (codes "name")
  pub provided : AreNames provides (drop 1 cells)
  pub required : AreNames requires_ (drop (1 + length provides) cells)

abbrev pub is_named : List ℕ → List CatRow → Bool
is_named name rows = list_any (bytes_eq name) (map (λ (row : CatRow). row.name) rows)

-- The record is as wide as it has to be, and means the row, whose name none of those before has.
pub record IsNext (t : Types) (provides requires_ : List Port) (before : List CatRow) (cells : Record) (row : CatRow) : Type 0 where
  pub wide : is_wide provides requires_ cells ≡ true
  pub means : RecordIs t provides requires_ cells row
  pub new : is_named row.name before ≡ false

-- After the rows before, the records mean these rows in turn.
abbrev pub RowsAre : Types → List Port → List Port → List CatRow → List Record → List CatRow → Type 0
RowsAre t provides requires_ before [] [] = Unit {0}
RowsAre t provides requires_ before [] (row ∷ rows) = ⊥
RowsAre t provides requires_ before (r ∷ rs) [] = ⊥
RowsAre t provides requires_ before (r ∷ rs) (row ∷ rows) = IsNext t provides requires_ before r row × RowsAre t provides requires_ (before ++ row ∷ []) rs rows

-- What is wrong with a record that has no such meaning: first its width, and then the rest of it.
abbrev pub IsBad : Bool → Type 0 → FaultKind → Type 0
IsBad wide Good fault.RowWidth = wide ≡ false
IsBad wide Good fault.BadCell = (wide ≡ true) × (Good → ⊥)
IsBad wide Good _ = ⊥

pub record IsHeader (provides requires_ : List Port) (cells : Record) : Type 0 where
  pub wide : is_wide provides requires_ cells ≡ true
  pub names : HeaderIs provides requires_ cells

-- The table has a header and at least one record more, and they mean the rows.
pub record IsTable (t : Types) (provides requires_ : List Port) (bytes : List ℕ) (rows : List CatRow) : Type 0 where
  pub header : Record
  pub records : List Record
  pub has : TableHas bytes (header ∷ records)
  pub some : 0 < length records
  pub is_header : IsHeader provides requires_ header
  pub are_rows : RowsAre t provides requires_ [] records rows

-- There is no record after record 0.
pub record HasNoRows (bytes : List ℕ) (f : Fault) : Type 0 where
  pub records : List Record
  pub has : TableHas bytes records
  pub few : length records < 2
  pub is : f ≡ record { kind = fault.NoRows; at = 0 }

-- Of two records, record 0 is bad.
pub record HasBadHeader (provides requires_ : List Port) (records : List Record) (f : Fault) : Type 0 where
  pub header : Record
  pub second : Record
  pub are : records ≡ header ∷ second ∷ []
  pub bad : IsBad (is_wide provides requires_ header) (HeaderIs provides requires_ header) f.kind
  pub at : f.at ≡ 0

-- All records before the last are good, and the last is bad.
pub record HasBadRecord (t : Types) (provides requires_ : List Port) (records : List Record) (f : Fault) : Type 0 where
  pub header : Record
  pub before : List Record
  pub rows : List CatRow
  pub cells : Record
  pub are : records ≡ header ∷ before ++ cells ∷ []
  pub is_header : IsHeader provides requires_ header
  pub are_rows : RowsAre t provides requires_ [] before rows
  pub bad : IsBad (is_wide provides requires_ cells) ((row : CatRow) × IsNext t provides requires_ rows cells row) f.kind
  pub at : f.at ≡ 1 + length before

-- the fault of the first bad one of the records, which is the last, or record 0 of two
abbrev pub FirstBad : Types → List Port → List Port → List Record → Fault → Type 0
FirstBad t provides requires_ records f = HasBadHeader provides requires_ records f ⊎ HasBadRecord t provides requires_ records f

-- the first fault of a table
abbrev pub IsTableFault : Types → List Port → List Port → List ℕ → Fault → Type 0
IsTableFault t provides requires_ bytes f = HasNoRows bytes f ⊎ (records : List Record) × TableBegins bytes records × FirstBad t provides requires_ records f

-- The table's rows, or its first fault. Want of memory says nothing.
abbrev pub AnswersTable : Types → List Port → List Port → List ℕ → Result (List CatRow) (Stop Fault) → Type 0
AnswersTable t provides requires_ bytes (Ok rows) = IsTable t provides requires_ bytes rows
AnswersTable t provides requires_ bytes (Err (stop.At f)) = IsTableFault t provides requires_ bytes f
AnswersTable t provides requires_ bytes (Err stop.Memory) = Unit {0}
