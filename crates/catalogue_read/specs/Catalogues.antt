-- The rows of the catalogues of a library, and what is wrong with them.
use Rattle.std.specs.Prelude.{◌≡◌, ℕ, List, [], Option, Some, None, option_and_then, slice_get}
use Rattle.std.specs.List.{flat_map}
use Rattle.design_lexer.specs.declared.tree.BodyTree.{BodyTree}
use Rattle.design_lexer.specs.declared.tree.BodyTree.TheVariants as body
use Rattle.design_lexer.specs.declared.tree.File.{File}
use Rattle.design_lexer.specs.declared.tree.File.TheVariants as file
use Rattle.design_lexer.specs.declared.tree.NameAt.{NameAt}
use Rattle.design_lexer.specs.declared.tree.PortTree.{PortTree}
use Rattle.design_lexer.specs.declared.tree.RowTree.{RowTree}
use Rattle.design_model.specs.declared.design.CatRow.{CatRow}
use Rattle.fault_list.specs.Faults.{first_fault, in_file, named}
use Rattle.fault_list.specs.declared.fault.Fault.{Fault}
use Rattle.fault_list.specs.declared.fault.FaultKind.TheVariants.{Unknown}
use Rattle.fault_list.specs.declared.fault.FileFault.{FileFault}
use Rattle.name_table.specs.Files.{table_place}
use Rattle.name_table.specs.declared.source.SourceFile.{SourceFile}
use Rattle.name_table.specs.declared.source.Table.{Table}
use Rattle.row_values.specs.Rows.{rows_faults, rows_meant}
use Rattle.row_values.specs.Tables.{IsTable, IsTableFault}
use Rattle.side_ports.specs.Sides.{Sides, sides_of}
use Rattle.tree_units.specs.Ports.{port_faults}
use Rattle.tree_units.specs.Posets.{poset_place}
use Rattle.value_type.specs.declared.poset.Types.{Types}

-- ---- catalogues

-- What a catalogue writes: its ports, and its rows or the name of the table that has them.
pub record Catalogue : Type 0 where
  pub ports : List PortTree
  pub rows : List RowTree
  pub table : Option NameAt

abbrev pub catalogue_in : BodyTree → Option Catalogue
catalogue_in (body.Catalogue ports rows table) = Some (record { ports = ports; rows = rows; table = table })
catalogue_in _ = None

-- the catalogue of a design or a template that is one
abbrev pub catalogue_of : File → Option Catalogue
catalogue_of (file.Design b) = catalogue_in b
catalogue_of (file.Template params b) = catalogue_in b
catalogue_of _ = None

-- the faults of the ports of a catalogue
abbrev pub catalogue_port_faults : Types → Option Catalogue → List Fault
catalogue_port_faults types (Some c) = flat_map (port_faults (poset_place types)) c.ports
catalogue_port_faults types None = []

-- Where the file is a catalogue, none of its ports has a fault.
abbrev pub HasSoundPorts : Types → SourceFile → Type 0
HasSoundPorts types f = catalogue_port_faults types (catalogue_of f.tree) ≡ []

-- the table of this name
abbrev pub table_named : List Table → List ℕ → Option Table
table_named tables name = option_and_then (slice_get tables) (table_place tables name)

-- ---- rows

-- The trees have no fault, and mean the rows.
abbrev pub AreMeant : Types → Sides → List RowTree → List CatRow → Type 0
AreMeant types sides trees rows = (rows_faults types sides.provides sides.requires_ trees ≡ []) × (rows_meant types sides.provides sides.requires_ trees ≡ Some rows)

-- The table is there, and means the rows.
abbrev pub AreTabled : Types → Sides → Option Table → List CatRow → Type 0
AreTabled types sides (Some table) rows = IsTable types sides.provides sides.requires_ table.bytes rows
AreTabled types sides None rows = ⊥

-- The rows of the table that a catalogue names, or else its own.
abbrev pub AreListed : List Table → Types → Sides → List RowTree → Option NameAt → List CatRow → Type 0
AreListed tables types sides trees (Some name) rows = AreTabled types sides (table_named tables name.name) rows
AreListed tables types sides trees None rows = AreMeant types sides trees rows

abbrev pub AreRowsOf : List Table → Types → Option Catalogue → List CatRow → Type 0
AreRowsOf tables types (Some c) rows = AreListed tables types (sides_of types c.ports) c.rows c.table rows
AreRowsOf tables types None rows = rows ≡ []

-- The file has these rows. One that is no catalogue has none.
abbrev pub HasRows : List Table → Types → SourceFile → List CatRow → Type 0
HasRows tables types f rows = AreRowsOf tables types (catalogue_of f.tree) rows

-- Some rows are those of the file.
abbrev pub HasSomeRows : List Table → Types → SourceFile → Type 0
HasSomeRows tables types f = (rows : List CatRow) × HasRows tables types f rows

-- ---- faults

-- The first fault of the trees, in this file.
abbrev pub IsTreeFault : Types → Sides → List ℕ → List RowTree → FileFault → Type 0
IsTreeFault types sides file trees fault = first_fault (in_file file (rows_faults types sides.provides sides.requires_ trees)) ≡ Some fault

-- A fault of the table, in the table's own file.
pub record IsFaultIn (types : Types) (sides : Sides) (table : Table) (fault : FileFault) : Type 0 where
  pub at : Fault
  pub is_fault : IsTableFault types sides.provides sides.requires_ table.bytes at
  pub is : fault ≡ named table.name at

-- A table that isn't there is unknown, at its name in this file.
abbrev pub IsBadTable : Types → Sides → List ℕ → NameAt → Option Table → FileFault → Type 0
IsBadTable types sides file name (Some table) fault = IsFaultIn types sides table fault
IsBadTable types sides file name None fault = fault ≡ named file (record { kind = Unknown; at = name.at })

abbrev pub IsBadList : List Table → Types → Sides → List ℕ → List RowTree → Option NameAt → FileFault → Type 0
IsBadList tables types sides file trees (Some name) fault = IsBadTable types sides file name (table_named tables name.name) fault
IsBadList tables types sides file trees None fault = IsTreeFault types sides file trees fault

abbrev pub IsRowFaultOf : List Table → Types → List ℕ → Option Catalogue → FileFault → Type 0
IsRowFaultOf tables types file (Some c) fault = IsBadList tables types (sides_of types c.ports) file c.rows c.table fault
IsRowFaultOf tables types file None fault = ⊥

-- It is the first fault of the file's rows. One that is no catalogue has none.
abbrev pub HasBadRow : List Table → Types → SourceFile → FileFault → Type 0
HasBadRow tables types f fault = IsRowFaultOf tables types f.name (catalogue_of f.tree) fault
