-- The rows of a catalogue, and what is wrong with them.
use Rattle.std.specs.Prelude.{ℕ, ◌&&◌, Bool, not, nat_eq, List, [], ◌∷◌, ◌++◌, length, map, Option, Some, None}
use Rattle.std.specs.List.{flat_map}
use Rattle.design_lexer.specs.declared.tree.RowTree.{RowTree}
use Rattle.design_lexer.specs.declared.tree.ValueTree.{ValueTree, out-ValueTree}
use Rattle.design_lexer.specs.declared.tree.ValueTree.TheOpen.{ValueTree-F}
use Rattle.design_model.specs.declared.design.CatRow.{CatRow}
use Rattle.fault_list.specs.Faults.{fault_if, fault_unless}
use Rattle.fault_list.specs.declared.fault.Fault.{Fault}
use Rattle.fault_list.specs.declared.fault.FaultKind.TheVariants.{BadCell, NoRows, RowWidth}
use Rattle.row_values.specs.Values.{Layer, each_meant, value_meant}
use Rattle.row_values.specs.declared.value.Rounding.{Rounding}
use Rattle.row_values.specs.declared.value.Rounding.TheVariants as rounding
use Rattle.tree_units.specs.Together.{together}
use Rattle.value_type.specs.declared.port.Port.{Port}
use Rattle.value_type.specs.declared.poset.Types.{Types}
use Rattle.value_type.specs.declared.value.Value.{Value}

abbrev pub place_in : Layer → ℕ
place_in (ValueTree-F.Top at) = at
place_in (ValueTree-F.Constant c) = c.at
place_in (ValueTree-F.Element poset element) = poset.at
place_in (ValueTree-F.Upper poset elements) = poset.at
place_in (ValueTree-F.Tuple at parts) = at

-- the place of the value's first token
abbrev pub place_of : ValueTree → ℕ
place_of tree = place_in (out-ValueTree tree)

abbrev pub bad_cell : ℕ → Fault
bad_cell at = record { kind = BadCell; at = at }

-- the values that mean nothing for their ports
abbrev pub cell_faults : Types → Rounding → List Port → List ValueTree → List Fault
cell_faults t r [] trees = []
cell_faults t r (p ∷ ps) [] = []
cell_faults t r (p ∷ ps) (x ∷ xs) = fault_unless (value_meant t r p.kind x) (bad_cell (place_of x)) ++ cell_faults t r ps xs

-- one value for each port, if there is one tree for each and it means one
abbrev pub cells_meant : Types → Rounding → List Port → List ValueTree → Option (List Value)
cells_meant t r ports = each_meant (map (λ (p : Port). value_meant t r p.kind) ports)

-- There is one value for each port.
abbrev pub is_wide : List Port → List Port → RowTree → Bool
is_wide provides requires_ row = nat_eq (length row.provided) (length provides) && nat_eq (length row.required) (length requires_)

abbrev pub wrong_width : RowTree → Fault
wrong_width row = record { kind = RowWidth; at = row.name.at }

-- The wrong number of values stands at the row's name. Provided values are rounded down and required ones up.
abbrev pub row_faults : Types → List Port → List Port → RowTree → List Fault
row_faults t provides requires_ row =
    fault_if (not (is_wide provides requires_ row)) (wrong_width row) ++ cell_faults t rounding.Down provides row.provided ++ cell_faults t rounding.Up requires_ row.required

abbrev pub row_named : List ℕ → Option (List Value) → Option (List Value) → Option CatRow
row_named name (Some provided) (Some required) = Some (record { name = name; provided = provided; required = required })
row_named name _ _ = None

abbrev pub row_meant : Types → List Port → List Port → RowTree → Option CatRow
row_meant t provides requires_ row = row_named row.name.name (cells_meant t rounding.Down provides row.provided) (cells_meant t rounding.Up requires_ row.required)

abbrev pub no_rows : Fault
no_rows = record { kind = NoRows; at = 0 }

-- A catalogue without rows has the one fault; otherwise each row has its own.
abbrev pub rows_faults : Types → List Port → List Port → List RowTree → List Fault
rows_faults t provides requires_ rows = fault_if (nat_eq (length rows) 0) no_rows ++ flat_map (row_faults t provides requires_) rows

abbrev pub rows_meant : Types → List Port → List Port → List RowTree → Option (List CatRow)
rows_meant t provides requires_ rows = together (map (row_meant t provides requires_) rows)
