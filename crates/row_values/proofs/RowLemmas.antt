-- Rows and their cells in turn.
use Rattle.std.proofs.Common.{◌≡◌, ◌∙◌, ◌<◌, ◌+◌, refl, ap, sym, ℕ, List, [], ◌∷◌, ◌++◌, drop, get_or, length}
use Rattle.std.proofs.lemmas.List.{drop_more}
use Rattle.std.specs.List.{flat_map}
use Rattle.std.specs.Prelude.{Some, Err, option_map}
use Rattle.design_lexer.specs.declared.tree.RowTree.{RowTree}
use Rattle.design_lexer.specs.declared.tree.ValueTree.{ValueTree}
use Rattle.design_model.specs.declared.design.CatRow.{CatRow}
use Rattle.fault_list.specs.Answers.{Answers}
use Rattle.fault_list.specs.AnswersLaws.{stopped_left}
use Rattle.fault_list.specs.Faults.{fault_unless}
use Rattle.fault_list.specs.declared.fault.Fault.{Fault}
use Rattle.fault_list.specs.declared.fault.Stop.{Stop}
use Rattle.row_values.proofs.ValueLemmas.{all_next, each_next}
use Rattle.row_values.specs.Rows.{bad_cell, cell_faults, cells_meant, place_of, row_faults, row_meant, rows_meant}
use Rattle.row_values.specs.Values.{value_meant}
use Rattle.row_values.specs.declared.value.Rounding.{Rounding}
use Rattle.value_type.specs.declared.port.Port.{Port}
use Rattle.value_type.specs.declared.poset.Types.{Types}
use Rattle.value_type.specs.declared.value.Value.{Value}

-- The faults of the cells left are all faults, and the values so far, followed by those of the cells left, are all values.
abbrev pub CellsLeft : Types → Rounding → List Port → List ValueTree → ℕ → List Value → Type 0
CellsLeft t r ports trees i made =
    (cell_faults t r ports trees ≡ cell_faults t r (drop i ports) (drop i trees))
    × (cells_meant t r ports trees ≡ option_map (λ vs. made ++ vs) (cells_meant t r (drop i ports) (drop i trees)))

module _ (t : Types) (r : Rounding) (ports : List Port) (trees : List ValueTree) (i : ℕ) (made : List Value) (p : Port) (x : ValueTree)
    (left : CellsLeft t r ports trees i made) (inside : i < length ports) (within : i < length trees) (p-is : p ≡ get_or ports i p) (x-is : x ≡ get_or trees i x) where
  front : cell_faults t r ports trees ≡ fault_unless (value_meant t r p.kind x) (bad_cell (place_of x)) ++ cell_faults t r (drop (i + 1) ports) (drop (i + 1) trees)
  front = left.0 ∙ rw (drop_more ports i p inside, drop_more trees i x within, ← p-is, ← x-is) refl

  pub cells_next : (v : Value) → Some v ≡ value_meant t r p.kind x → CellsLeft t r ports trees (i + 1) (made ++ v ∷ [])
  cells_next v e = (front ∙ rw (← e) refl, left.1 ∙ each_next (λ (q : Port). value_meant t r q.kind) ports trees i p x inside within p-is x-is made v (sym e))

  pub cells_stopped : (s : Stop Fault) → Answers {A = Value} (fault_unless (value_meant t r p.kind x) (bad_cell (place_of x))) (λ v. Some v ≡ value_meant t r p.kind x) (Err s)
      → Answers {A = List Value} (cell_faults t r ports trees) (λ vs. Some vs ≡ cells_meant t r ports trees) (Err s)
  cells_stopped s h = stopped_left {A = Value} {B = List Value} (fault_unless (value_meant t r p.kind x) (bad_cell (place_of x))) (cell_faults t r (drop (i + 1) ports) (drop (i + 1) trees)) (cell_faults t r ports trees)
      (λ v. Some v ≡ value_meant t r p.kind x) (λ vs. Some vs ≡ cells_meant t r ports trees) s front h

-- The same of rows.
abbrev pub RowsLeft : Types → List Port → List Port → List RowTree → ℕ → List CatRow → Type 0
RowsLeft t provides requires_ rows i made =
    (flat_map (row_faults t provides requires_) rows ≡ flat_map (row_faults t provides requires_) (drop i rows))
    × (rows_meant t provides requires_ rows ≡ option_map (λ rs. made ++ rs) (rows_meant t provides requires_ (drop i rows)))

module _ (t : Types) (provides requires_ : List Port) (rows : List RowTree) (i : ℕ) (made : List CatRow) (x : RowTree) (left : RowsLeft t provides requires_ rows i made) (inside : i < length rows) (x-is : x ≡ get_or rows i x) where
  pub rows_front : flat_map (row_faults t provides requires_) rows ≡ row_faults t provides requires_ x ++ flat_map (row_faults t provides requires_) (drop (i + 1) rows)
  rows_front = left.0 ∙ ap (flat_map (row_faults t provides requires_)) (drop_more rows i x inside ∙ ap (λ y. y ∷ drop (i + 1) rows) (sym x-is))

  pub rows_next : (row : CatRow) → row_faults t provides requires_ x ≡ [] → Some row ≡ row_meant t provides requires_ x → RowsLeft t provides requires_ rows (i + 1) (made ++ row ∷ [])
  rows_next row none means = (
    rows_front ∙ ap (λ (fs : List Fault). fs ++ flat_map (row_faults t provides requires_) (drop (i + 1) rows)) none,
    left.1 ∙ all_next (row_meant t provides requires_) rows i x inside x-is made row (sym means),
  )
