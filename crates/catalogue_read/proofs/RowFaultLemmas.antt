-- The rows of a file have one first fault at most, and none where the file has rows.
use Rattle.std.proofs.Common.{◌≡◌, ◌∙◌, ap, sym, ℕ, List}
use Rattle.std.specs.Prelude.{Option, Some, None}
use Rattle.catalogue_read.specs.Catalogues.{AreListed, AreRowsOf, AreTabled, Catalogue, IsBadList, IsBadTable, IsRowFaultOf, table_named}
use Rattle.design_lexer.specs.declared.tree.NameAt.{NameAt}
use Rattle.design_lexer.specs.declared.tree.RowTree.{RowTree}
use Rattle.design_model.specs.declared.design.CatRow.{CatRow}
use Rattle.fault_list.specs.Faults.{first_fault, in_file, named}
use Rattle.fault_list.specs.declared.fault.Fault.{Fault}
use Rattle.fault_list.specs.declared.fault.FileFault.{FileFault}
use Rattle.name_table.specs.declared.source.Table.{Table}
use Rattle.row_values.specs.Tables.{IsTable, IsTableFault}
use Rattle.side_ports.specs.Sides.{Sides, sides_of}
use Rattle.value_type.specs.declared.port.Port.{Port}
use Rattle.value_type.specs.declared.poset.Types.{Types}

module _ (types : Types) (once : (provides requires_ : List Port) (bytes : List ℕ) (a b : Fault) → IsTableFault types provides requires_ bytes a → IsTableFault types provides requires_ bytes b → a ≡ b) where
  table_fault : (sides : Sides) (file : List ℕ) (name : NameAt) (table : Option Table) (a b : FileFault) → IsBadTable types sides file name table a → IsBadTable types sides file name table b → a ≡ b
  table_fault sides file name (Some table) a b h k = h.is ∙ ap (named table.name) (once sides.provides sides.requires_ table.bytes h.at k.at h.is_fault k.is_fault) ∙ sym k.is
  table_fault sides file name None a b h k = h ∙ sym k

  list_fault : (tables : List Table) (sides : Sides) (file : List ℕ) (trees : List RowTree) (name : Option NameAt) (a b : FileFault) → IsBadList tables types sides file trees name a → IsBadList tables types sides file trees name b → a ≡ b
  list_fault tables sides file trees (Some name) a b h k = table_fault sides file name (table_named tables name.name) a b h k
  list_fault tables sides file trees None a b h k = let two : Some a ≡ Some b = sym h ∙ k in cc

  pub row_fault : (tables : List Table) (file : List ℕ) (catalogue : Option Catalogue) (a b : FileFault) → IsRowFaultOf tables types file catalogue a → IsRowFaultOf tables types file catalogue b → a ≡ b
  row_fault tables file (Some c) a b h k = list_fault tables (sides_of types c.ports) file c.rows c.table a b h k
  row_fault tables file None a b h k = absurd h

module _ (types : Types) (never : (provides requires_ : List Port) (bytes : List ℕ) (rows : List CatRow) (fault : Fault) → IsTable types provides requires_ bytes rows → IsTableFault types provides requires_ bytes fault → ⊥) where
  never_tabled : (sides : Sides) (file : List ℕ) (name : NameAt) (table : Option Table) (rows : List CatRow) (fault : FileFault) → AreTabled types sides table rows → IsBadTable types sides file name table fault → ⊥
  never_tabled sides file name (Some table) rows fault h k = never sides.provides sides.requires_ table.bytes rows k.at h k.is_fault
  never_tabled sides file name None rows fault h k = h

  never_listed : (tables : List Table) (sides : Sides) (file : List ℕ) (trees : List RowTree) (name : Option NameAt) (rows : List CatRow) (fault : FileFault) → AreListed tables types sides trees name rows
      → IsBadList tables types sides file trees name fault → ⊥
  never_listed tables sides file trees (Some name) rows fault h k = never_tabled sides file name (table_named tables name.name) rows fault h k
  never_listed tables sides file trees None rows fault h k =
      let bad : None ≡ Some fault = sym (ap (λ (faults : List Fault). first_fault (in_file file faults)) h.0) ∙ k in
      cc

  pub rows_or_fault : (tables : List Table) (file : List ℕ) (catalogue : Option Catalogue) (rows : List CatRow) (fault : FileFault) → AreRowsOf tables types catalogue rows → IsRowFaultOf tables types file catalogue fault → ⊥
  rows_or_fault tables file (Some c) rows fault h k = never_listed tables (sides_of types c.ports) file c.rows c.table rows fault h k
  rows_or_fault tables file None rows fault h k = k
