-- What is kept of the records of a table that have been read.
use Rattle.std.specs.Prelude.{◌≡◌, ◌<◌, ℕ, List, [], ◌∷◌, is_some, length, Result, Ok, Err}
use Rattle.design_model.specs.declared.design.CatRow.{CatRow}
use Rattle.fault_list.specs.declared.fault.Fault.{Fault}
use Rattle.fault_list.specs.declared.fault.FaultKind.TheVariants.{NoRows}
use Rattle.fault_list.specs.declared.fault.Stop.{Stop}
use Rattle.fault_list.specs.declared.fault.Stop.TheVariants.{At}
use Rattle.name_index.specs.Names.{number_of}
use Rattle.row_values.specs.Tables.{HeaderIs, IsBad, IsHeader, Record, RowsAre, is_named, is_wide}
use Rattle.row_values.specs.declared.table.kept.Header.{Header}
use Rattle.row_values.specs.declared.table.kept.Header.TheVariants as header
use Rattle.row_values.specs.declared.table.kept.KeptRows.{KeptRows}
use Rattle.value_type.specs.declared.port.Port.{Port}
use Rattle.value_type.specs.declared.poset.Types.{Types}

-- Record 0 is what it was found to be. A bad one counts only until another record comes.
abbrev pub Judged : List Port → List Port → Record → List Record → Header → Type 0
Judged provides requires_ cells rest header.Missing = ⊥
Judged provides requires_ cells rest header.Good = IsHeader provides requires_ cells
Judged provides requires_ cells rest (header.Bad kind) = (rest ≡ []) × IsBad (is_wide provides requires_ cells) (HeaderIs provides requires_ cells) kind

-- The index has the names of the rows.
abbrev pub HasNames : List (List ℕ × ℕ) → List CatRow → Type 0
HasNames names rows = (name : List ℕ) → is_some (number_of names name) ≡ is_named name rows

-- So much is kept where these records have been read.
abbrev pub SoFar : Types → List Port → List Port → List Record → KeptRows → Type 0
SoFar t provides requires_ [] kept = (kept.header ≡ header.Missing) × (kept.rows.items ≡ []) × (kept.names ≡ [])
SoFar t provides requires_ (cells ∷ records) kept = Judged provides requires_ cells records kept.header × RowsAre t provides requires_ [] records kept.rows.items × HasNames kept.names kept.rows.items

-- These rows, or that there is none.
abbrev pub IsKept : List CatRow → Result (List CatRow) (Stop Fault) → Type 0
IsKept rows (Ok made) = (made ≡ rows) × (0 < length rows)
IsKept rows (Err stop) = (stop ≡ At (record { kind = NoRows; at = 0 })) × (rows ≡ [])
