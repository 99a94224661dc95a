-- A table has one list of records, and means one list of rows at most.
use Rattle.std.proofs.Common.{◌≡◌, ◌∙◌, ◌+◌, ℕ, List, [], ◌∷◌, ◌++◌, Some, None, drop, length, refl, sym, ap, ap₂, subst}
use Rattle.csv.specs.Machine.{Read}
use Rattle.csv.specs.Reading.{AreRecords, Reached}
use Rattle.csv.specs.declared.parser.Config.{Config}
use Rattle.csv.specs.declared.parser.State.{State}
use Rattle.design_model.specs.declared.design.CatRow.{CatRow}
use Rattle.row_values.proofs.CellLemmas.{tree_same}
use Rattle.row_values.proofs.TableLemmas.{record_name}
use Rattle.row_values.specs.Cells.{CellIs}
use Rattle.row_values.specs.Tables.{CellsAre, IsTable, Record, RecordIs, RowsAre}
use Rattle.row_values.specs.Values.{value_meant}
use Rattle.row_values.specs.declared.value.Rounding.{Rounding}
use Rattle.row_values.specs.declared.value.Rounding.TheVariants as rounding
use Rattle.value_type.specs.declared.kind.Kind.{Kind}
use Rattle.value_type.specs.declared.port.Port.{Port}
use Rattle.value_type.specs.declared.poset.Types.{Types}
use Rattle.value_type.specs.declared.value.Value.{Value}

pub records_same : (cfg : Config) (s : State) (xs : List ℕ) (a b : List Record) → AreRecords cfg s xs a → AreRecords cfg s xs b → a ≡ b
unfolding Reached
records_same cfg s xs [] [] h k = refl
records_same cfg s xs [] (r ∷ b) h k = let bad : None ≡ Some k.2.0 = sym (rw (sym h.2.0, sym h.2.1) at h.3) ∙ k.2.1 in absurd (cc)
records_same cfg s xs (q ∷ a) [] h k = let bad : None ≡ Some h.2.0 = sym (rw (sym k.2.0, sym k.2.1) at k.3) ∙ h.2.1 in absurd (cc)
records_same cfg s xs (q ∷ a) (r ∷ b) h k =
    let is : h.2.0 ≡ k.2.0 = cc in
    let moved = subst (λ (p : Read). Reached cfg p.1 p.2 a h.0 h.1) is h.2.3 in
    ap₂ (λ x y. x ∷ y) (h.2.2 ∙ ap (λ (p : Read). p.0) is ∙ sym k.2.2) (records_same cfg k.2.0.1 k.2.0.2 a b (h.0, h.1, moved, h.3) (k.0, k.1, k.2.3, k.3))

module _ (t : Types) (r : Rounding) where
  cell_same : (kind : Kind) (cell : List ℕ) (v w : Value) → CellIs t r kind cell v → CellIs t r kind cell w → v ≡ w
  cell_same kind cell v w h k =
      let trees = tree_same cell h.tree k.tree h.writes k.writes in
      let two : Some v ≡ Some w = sym h.means ∙ ap (value_meant t r kind) trees ∙ k.means in
      cc

  cells_same : (ports : List Port) (cells : Record) (vs ws : List Value) → CellsAre t r ports cells vs → CellsAre t r ports cells ws → vs ≡ ws
  cells_same [] cells [] [] h k = refl
  cells_same [] cells [] (w ∷ ws) h k = absurd k
  cells_same [] cells (v ∷ vs) ws h k = absurd h
  cells_same (p ∷ ps) [] vs ws h k = absurd h
  cells_same (p ∷ ps) (c ∷ cs) [] ws h k = absurd h
  cells_same (p ∷ ps) (c ∷ cs) (v ∷ vs) [] h k = absurd k
  cells_same (p ∷ ps) (c ∷ cs) (v ∷ vs) (w ∷ ws) h k = ap₂ (λ (x : Value) (xs : List Value). x ∷ xs) (cell_same p.kind c v w h.0 k.0) (cells_same ps cs vs ws h.1 k.1)

module _ (t : Types) (provides requires_ : List Port) where
  pub record_same : (cells : Record) (a b : CatRow) → RecordIs t provides requires_ cells a → RecordIs t provides requires_ cells b → a ≡ b
  record_same cells a b h k =
      let names = record_name t provides requires_ cells a b h k in
      let provided = cells_same t rounding.Down provides (drop 1 cells) a.provided b.provided h.provided k.provided in
      let required = cells_same t rounding.Up requires_ (drop (1 + length provides) cells) a.required b.required h.required k.required in
      λ i. record { name = names i; provided = provided i; required = required i }

  -- Which rows come before says only which names are new.
  pub rows_same : (before others : List CatRow) (records : List Record) (a b : List CatRow) → RowsAre t provides requires_ before records a → RowsAre t provides requires_ others records b → a ≡ b
  rows_same before others [] [] [] h k = refl
  rows_same before others [] [] (y ∷ b) h k = absurd k
  rows_same before others [] (x ∷ a) b h k = absurd h
  rows_same before others (r ∷ rs) [] b h k = absurd h
  rows_same before others (r ∷ rs) (x ∷ a) [] h k = absurd k
  rows_same before others (r ∷ rs) (x ∷ a) (y ∷ b) h k =
      ap₂ (λ (z : CatRow) (zs : List CatRow). z ∷ zs) (record_same r x y h.0.means k.0.means) (rows_same (before ++ x ∷ []) (others ++ y ∷ []) rs a b h.1 k.1)

  pub tables_same : (bytes : List ℕ) (rows others : List CatRow) → IsTable t provides requires_ bytes rows → IsTable t provides requires_ bytes others → rows ≡ others
  tables_same bytes rows others h k =
      let all = records_same _ _ _ (h.header ∷ h.records) (k.header ∷ k.records) h.has k.has in
      let rest : h.records ≡ k.records = cc in
      rows_same [] [] k.records rows others (subst (λ (rs : List Record). RowsAre t provides requires_ [] rs rows) rest h.are_rows) k.are_rows
