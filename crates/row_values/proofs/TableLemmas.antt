-- What is kept of records, one after the other, and what the whole of them is.
use Rattle.std.proofs.Common.{◌≡◌, ◌∙◌, ◌<◌, ◌+◌, ◌||◌, inl, inr, arith, refl, sym, ap, subst, ℕ, Bool, true, false, cond, List, [], ◌∷◌, ◌++◌, append_assoc, length, map}
use Rattle.std.proofs.lemmas.List.Folds.{list_any-append}
use Rattle.std.proofs.lemmas.List.{map-append}
use Rattle.std.specs.List.{list_any}
use Rattle.std.specs.Prelude.{Option, Some, None, Result, Ok, Err, is_some}
use Rattle.std.specs.Str.{bytes_eq}
use Rattle.design_model.specs.declared.design.CatRow.{CatRow}
use Rattle.fault_list.specs.declared.fault.Fault.{Fault}
use Rattle.fault_list.specs.declared.fault.FaultKind.{FaultKind}
use Rattle.fault_list.specs.declared.fault.FaultKind.TheVariants as kind
use Rattle.fault_list.specs.declared.fault.Stop.{Stop}
use Rattle.name_index.specs.NameLaws.{number_with}
use Rattle.name_index.specs.Names.{first_number, number_of, with_name}
use Rattle.row_values.proofs.FindsLemmas.{name_same}
use Rattle.row_values.proofs.RecordLemmas.{name_in}
use Rattle.row_values.specs.Reading.{HasNames, IsKept, Judged, SoFar}
use Rattle.row_values.specs.Tables.{AnswersTable, FirstBad, IsBad, IsHeader, IsNext, IsTable, IsTableFault, Record, RecordIs, RowsAre, TableHas, is_named, is_wide}
use Rattle.row_values.specs.declared.table.kept.Header.{Header}
use Rattle.row_values.specs.declared.table.kept.Header.TheVariants as header
use Rattle.row_values.specs.declared.table.kept.KeptRows.{KeptRows}
use Rattle.value_type.specs.declared.port.Port.{Port}
use Rattle.value_type.specs.declared.poset.Types.{Types}

-- The rows of one record have one name.
pub record_name : (t : Types) (provides requires_ : List Port) (cells : Record) (a b : CatRow) → RecordIs t provides requires_ cells a → RecordIs t provides requires_ cells b → a.name ≡ b.name
record_name t provides requires_ cells a b h k = name_same h.name_cell a.name b.name h.name (name_in t provides requires_ cells h.name_cell (sym h.there) b k)

-- ---- names

is_named_more : (name : List ℕ) (rows : List CatRow) (row : CatRow) → is_named name (rows ++ row ∷ []) ≡ is_named name rows || bytes_eq name row.name
is_named_more name rows row =
    ap (list_any (bytes_eq name)) (map-append (λ (r : CatRow). r.name) rows (row ∷ [])) ∙ list_any-append (bytes_eq name) (map (λ (r : CatRow). r.name) rows) (row.name ∷ [])
    ∙ ap (λ (t : Bool). is_named name rows || t) (last (bytes_eq name row.name))
  where
    last : (t : Bool) → t || false ≡ t
    last true = refl
    last false = refl

pub names_more : (names : List (List ℕ × ℕ)) (rows : List CatRow) (row : CatRow) → HasNames names rows → HasNames (with_name names row.name 0) (rows ++ row ∷ [])
names_more names rows row h = λ name.
    ap is_some (number_with names row.name 0 name) ∙ go (number_of names name) name ∙ ap (λ (t : Bool). t || bytes_eq name row.name) (h name) ∙ sym (is_named_more name rows row)
  where
    tests : (t : Bool) → is_some {T = ℕ} (cond t (Some 0) None) ≡ false || t
    tests true = refl
    tests false = refl

    go : (o : Option ℕ) (name : List ℕ) → is_some (first_number o name row.name 0) ≡ is_some o || bytes_eq name row.name
    go (Some k) name = refl
    go None name = tests (bytes_eq name row.name)

-- ---- rows

rows_length : (t : Types) (provides requires_ : List Port) (before : List CatRow) (records : List Record) (rows : List CatRow) → RowsAre t provides requires_ before records rows → length records ≡ length rows
rows_length t provides requires_ before [] [] h = refl
rows_length t provides requires_ before [] (row ∷ rows) h = absurd h
rows_length t provides requires_ before (r ∷ records) [] h = absurd h
rows_length t provides requires_ before (r ∷ records) (row ∷ rows) h = let rest = rows_length t provides requires_ (before ++ row ∷ []) records rows h.1 in omega (arith, rest)

rows_last : (t : Types) (provides requires_ : List Port) (before : List CatRow) (records : List Record) (rows : List CatRow) (cells : Record) (row : CatRow) → RowsAre t provides requires_ before records rows → IsNext t provides requires_ (before ++ rows) cells row
    → RowsAre t provides requires_ before (records ++ cells ∷ []) (rows ++ row ∷ [])
rows_last t provides requires_ before [] [] cells row h next = (subst (λ (rs : List CatRow). IsNext t provides requires_ rs cells row) (none before) next, tt)
  where
    none : (xs : List CatRow) → xs ++ [] ≡ xs
    none [] = refl
    none (x ∷ xs) = ap (λ (ys : List CatRow). x ∷ ys) (none xs)
rows_last t provides requires_ before [] (x ∷ rows) cells row h next = absurd h
rows_last t provides requires_ before (r ∷ records) [] cells row h next = absurd h
rows_last t provides requires_ before (r ∷ records) (x ∷ rows) cells row h next =
    (h.0, rows_last t provides requires_ (before ++ x ∷ []) records rows cells row h.1 (subst (λ (rs : List CatRow). IsNext t provides requires_ rs cells row) (sym (append_assoc before (x ∷ []) rows)) next))

module _ (t : Types) (provides requires_ : List Port) (cells0 : Record) (records : List Record) (kept : KeptRows) (so : SoFar t provides requires_ (cells0 ∷ records) kept) (good : kept.header ≡ header.Good) (cells : Record) where
  is_header : IsHeader provides requires_ cells0
  is_header = subst (λ (h : Header). Judged provides requires_ cells0 records h) good so.0

  -- The record is the first bad one.
  pub bad_row : (kind_ : FaultKind) (at : ℕ) → at ≡ length kept.rows.items + 1 → IsBad (is_wide provides requires_ cells) ((row : CatRow) × IsNext t provides requires_ kept.rows.items cells row) kind_
      → FirstBad t provides requires_ (cells0 ∷ records ++ cells ∷ []) (record { kind = kind_; at = at })
  bad_row kind_ at is bad = inr (record {
    header = cells0;
    before = records;
    rows = kept.rows.items;
    cells = cells;
    are = refl;
    is_header = is_header;
    are_rows = so.1;
    bad = bad;
    at = let same = rows_length t provides requires_ [] records kept.rows.items so.1 in omega (arith, is, same);
  })

  -- A row whose name was there before is none.
  pub repeated : (row : CatRow) → RecordIs t provides requires_ cells row → is_some (number_of kept.names row.name) ≡ true → (w : CatRow) × IsNext t provides requires_ kept.rows.items cells w → ⊥
  repeated row is there w =
      let same = record_name t provides requires_ cells row w.0 is w.1.means in
      let here = sym there ∙ so.2 row.name ∙ ap (λ (name : List ℕ). is_named name kept.rows.items) same ∙ w.1.new in
      absurd (cc)

  -- One row more is kept.
  pub kept_more : (after : KeptRows) (row : CatRow) → is_wide provides requires_ cells ≡ true → RecordIs t provides requires_ cells row → is_some (number_of kept.names row.name) ≡ false
      → after.header ≡ kept.header → after.rows.items ≡ kept.rows.items ++ row ∷ [] → after.names ≡ with_name kept.names row.name 0 → SoFar t provides requires_ (cells0 ∷ records ++ cells ∷ []) after
  kept_more after row wide is new same rows names = (
    subst (λ (h : Header). Judged provides requires_ cells0 (records ++ cells ∷ []) h) (sym (same ∙ good)) is_header,
    subst (λ (rs : List CatRow). RowsAre t provides requires_ [] (records ++ cells ∷ []) rs) (sym rows)
        (rows_last t provides requires_ [] records kept.rows.items cells row so.1 (record { wide = wide; means = is; new = sym (so.2 row.name) ∙ new })),
    λ name. ap (λ (ns : List (List ℕ × ℕ)). is_some (number_of ns name)) names ∙ names_more kept.names kept.rows.items row so.2 name ∙ ap (is_named name) (sym rows),
  )

-- Where record 0 is good, it has been read.
pub with_header : (t : Types) (provides requires_ : List Port) (kept : KeptRows) (P : List Record → Type 0) → kept.header ≡ header.Good → ((cells : Record) (records : List Record) → SoFar t provides requires_ (cells ∷ records) kept → P (cells ∷ records))
    → (records : List Record) → SoFar t provides requires_ records kept → P records
with_header t provides requires_ kept P good more [] so = let none = sym good ∙ so.0 in absurd (cc)
with_header t provides requires_ kept P good more (cells ∷ records) so = more cells records so

-- ---- the whole table

module _ (t : Types) (provides requires_ : List Port) (bytes : List ℕ) (kept : KeptRows) where
  some_rows : (records : List Record) → TableHas bytes records → SoFar t provides requires_ records kept → 0 < length kept.rows.items → IsTable t provides requires_ bytes kept.rows.items
  some_rows [] has so some = let none = ap length so.1 in absurd (omega (arith, none, some))
  some_rows (cells ∷ records) has so some = go kept.header so.0
    where
      size : length records ≡ length kept.rows.items
      size = rows_length t provides requires_ [] records kept.rows.items so.1

      go : (h : Header) → Judged provides requires_ cells records h → IsTable t provides requires_ bytes kept.rows.items
      go header.Missing j = absurd j
      go header.Good j = record { header = cells; records = records; has = has; some = let s = size in omega (arith, s, some); is_header = j; are_rows = so.1 }
      go (header.Bad kind_) j = let none = ap length j.0 in let s = size in absurd (omega (arith, s, some, none))

  no_rows : (records : List Record) → TableHas bytes records → SoFar t provides requires_ records kept → kept.rows.items ≡ [] → IsTableFault t provides requires_ bytes (record { kind = kind.NoRows; at = 0 })
  no_rows records has so none = inl (record { records = records; has = has; few = few records so; is = refl })
    where
      few : (rs : List Record) → SoFar t provides requires_ rs kept → length rs < 2
      few [] s = omega arith
      few (cells ∷ rs) s = let size = rows_length t provides requires_ [] rs kept.rows.items s.1 in let zero_rows = ap length none in omega (arith, size, zero_rows)

  -- What the rows that are kept of all records say of the table.
  pub finished : (result : Result (List CatRow) (Stop Fault)) → (records : List Record) × TableHas bytes records × SoFar t provides requires_ records kept → IsKept kept.rows.items result → AnswersTable t provides requires_ bytes result
  finished (Ok made) w k = subst (λ (rs : List CatRow). IsTable t provides requires_ bytes rs) (sym k.0) (some_rows w.0 w.1 w.2 k.1)
  finished (Err s) w k = subst (λ (z : Stop Fault). AnswersTable t provides requires_ bytes (Err z)) (sym k.0) (no_rows w.0 w.1 w.2 k.1)
