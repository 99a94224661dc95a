-- A table has one first fault at most, and none where it means rows.
use Rattle.std.proofs.Common.{◌≡◌, ◌∙◌, ◌<◌, ◌+◌, ◌⊎◌, inl, inr, arith, refl, sym, ap, ap₂, subst, subst₂, ℕ, Bool, true, cond, List, [], ◌∷◌, ◌++◌, append_assoc, length, length-append, Some, None}
use Rattle.csv.specs.Machine.{Read}
use Rattle.csv.specs.Reading.{AreRecords, Reached, default_config, strip_bom}
use Rattle.csv.specs.declared.parser.Config.{Config}
use Rattle.csv.specs.declared.parser.State.{State}
use Rattle.csv.specs.declared.parser.State.TheVariants as st
use Rattle.design_model.specs.declared.design.CatRow.{CatRow}
use Rattle.fault_list.specs.declared.fault.Fault.{Fault}
use Rattle.fault_list.specs.declared.fault.FaultKind.{FaultKind}
use Rattle.fault_list.specs.declared.fault.FaultKind.TheVariants as kind
use Rattle.order_core.specs.MemberLaws.{append_nil}
use Rattle.row_values.proofs.OnceLemmas.{record_same, records_same, rows_same}
use Rattle.row_values.specs.Tables.{FirstBad, HasBadHeader, HasBadRecord, HasNoRows, HeaderIs, IsBad, IsHeader, IsNext, IsTable, IsTableFault, Record, RowsAre, TableBegins, TableHas, is_wide}
use Rattle.value_type.specs.declared.port.Port.{Port}
use Rattle.value_type.specs.declared.poset.Types.{Types}

-- ---- beginnings of lists of records

abbrev BeginsWith : List Record → List Record → Type 0
BeginsWith whole part = (rest : List Record) × (whole ≡ part ++ rest)

begins_more : (x y : Record) (whole part : List Record) → x ≡ y → BeginsWith whole part → BeginsWith (x ∷ whole) (y ∷ part)
begins_more x y whole part same h = (h.0, ap₂ (λ (z : Record) (zs : List Record). z ∷ zs) same h.1)

either_more : (x y : Record) (a b : List Record) → x ≡ y → BeginsWith a b ⊎ BeginsWith b a → BeginsWith (x ∷ a) (y ∷ b) ⊎ BeginsWith (y ∷ b) (x ∷ a)
either_more x y a b same (inl h) = inl (begins_more x y a b same h)
either_more x y a b same (inr h) = inr (begins_more y x b a (sym same) h)

never_empty : (xs rest : List Record) (x : Record) → [] ≡ xs ++ x ∷ rest → ⊥
never_empty [] rest x e = cc
never_empty (y ∷ xs) rest x e = cc

-- A list without its last record begins as the list does.
without_last : (whole part rest : List Record) (last x : Record) → whole ++ last ∷ [] ≡ part ++ x ∷ rest → BeginsWith whole part
without_last whole [] rest last x e = (whole, refl)
without_last [] (p ∷ part) rest last x e = let none : [] ≡ part ++ x ∷ rest = cc in absurd (never_empty part rest x none)
without_last (y ∷ whole) (p ∷ part) rest last x e =
    let same : y ≡ p = cc in
    let tails : whole ++ last ∷ [] ≡ part ++ x ∷ rest = cc in
    begins_more y p whole part same (without_last whole part rest last x tails)

last_same : (a b : List Record) (x y : Record) → a ++ x ∷ [] ≡ b ++ y ∷ [] → (a ≡ b) × (x ≡ y)
last_same [] [] x y e = (refl, cc)
last_same [] (v ∷ b) x y e = let none : [] ≡ b ++ y ∷ [] = cc in absurd (never_empty b [] y none)
last_same (u ∷ a) [] x y e = let none : [] ≡ a ++ x ∷ [] = cc in absurd (never_empty a [] x none)
last_same (u ∷ a) (v ∷ b) x y e =
    let same : u ≡ v = cc in
    let tails : a ++ x ∷ [] ≡ b ++ y ∷ [] = cc in
    let rest = last_same a b x y tails in
    (ap₂ (λ (z : Record) (zs : List Record). z ∷ zs) same rest.0, rest.1)

-- ---- the records with which a table begins

-- Of two lists of records that are read from the same bytes, one begins with the other.
begins_both : (cfg : Config) (s y z : State) (xs ys zs : List ℕ) (a b : List Record) → Reached cfg s xs a y ys → Reached cfg s xs b z zs → BeginsWith a b ⊎ BeginsWith b a
unfolding Reached
begins_both cfg s y z xs ys zs a [] h k = inl (a, refl)
begins_both cfg s y z xs ys zs [] (r ∷ b) h k = inr (r ∷ b, refl)
begins_both cfg s y z xs ys zs (q ∷ a) (r ∷ b) h k =
    let is : k.0 ≡ h.0 = cc in
    let moved = subst (λ (p : Read). Reached cfg p.1 p.2 b z zs) is k.3 in
    either_more q r a b (h.2 ∙ ap (λ (p : Read). p.0) (sym is) ∙ sym k.2) (begins_both cfg h.0.1 y z h.0.2 ys zs a b h.3 moved)

-- All the records begin with those that are read.
begins_all : (cfg : Config) (s z : State) (xs zs : List ℕ) (all part : List Record) → AreRecords cfg s xs all → Reached cfg s xs part z zs → BeginsWith all part
unfolding Reached
begins_all cfg s z xs zs all [] h k = (all, refl)
begins_all cfg s z xs zs [] (r ∷ part) h k = let bad : None ≡ Some k.0 = sym (rw (sym h.2.0, sym h.2.1) at h.3) ∙ k.1 in absurd (cc)
begins_all cfg s z xs zs (q ∷ all) (r ∷ part) h k =
    let is : k.0 ≡ h.2.0 = cc in
    let moved = subst (λ (p : Read). Reached cfg p.1 p.2 part z zs) is k.3 in
    begins_more q r all part (h.2.2 ∙ ap (λ (p : Read). p.0) (sym is) ∙ sym k.2) (begins_all cfg h.2.0.1 z h.2.0.2 zs all part (h.0, h.1, h.2.3, h.3) moved)

table_begins : (bytes : List ℕ) (all part : List Record) → TableHas bytes all → TableBegins bytes part → BeginsWith all part
table_begins bytes all part has begins = begins_all default_config st.StartRecord begins.0 (strip_bom bytes) begins.1 all part has begins.2

-- ---- what is wrong with a record

bad_kind : (wide : Bool) (Good : Type 0) (k : FaultKind) → IsBad wide Good k → k ≡ cond wide kind.BadCell kind.RowWidth
bad_kind wide Good kind.RowWidth h = rw h refl
bad_kind wide Good kind.BadCell h = rw h.0 refl
bad_kind wide Good _ h = absurd h

bad_same : (wide : Bool) (Good : Type 0) (a b : Fault) → IsBad wide Good a.kind → IsBad wide Good b.kind → a.at ≡ b.at → a ≡ b
bad_same wide Good a b h k places =
    let kinds : a.kind ≡ b.kind = bad_kind wide Good a.kind h ∙ sym (bad_kind wide Good b.kind k) in
    λ i. record { kind = kinds i; at = places i }

never_good : (wide : Bool) (Good : Type 0) (k : FaultKind) → IsBad wide Good k → wide ≡ true → Good → ⊥
never_good wide Good kind.RowWidth h is good = cc
never_good wide Good kind.BadCell h is good = h.1 good
never_good wide Good _ h is good = h

module _ (t : Types) (provides requires_ : List Port) where
  -- Some row is the next one.
  abbrev HasNext : List CatRow → Record → Type 0
  HasNext rows cells = (row : CatRow) × IsNext t provides requires_ rows cells row

  -- The record after those of some rows means the next row, where the rows go on.
  row_after : (seen : List CatRow) (before rest : List Record) (cells : Record) (rows all : List CatRow) → RowsAre t provides requires_ seen before rows → RowsAre t provides requires_ seen (before ++ cells ∷ rest) all → HasNext (seen ++ rows) cells
  row_after seen [] rest cells [] [] h k = absurd k
  row_after seen [] rest cells [] (row ∷ all) h k = (row, subst (λ (rs : List CatRow). IsNext t provides requires_ rs cells row) (sym (append_nil seen)) k.0)
  row_after seen [] rest cells (x ∷ rows) all h k = absurd h
  row_after seen (r ∷ before) rest cells [] all h k = absurd h
  row_after seen (r ∷ before) rest cells (x ∷ rows) [] h k = absurd k
  row_after seen (r ∷ before) rest cells (x ∷ rows) (y ∷ all) h k =
      let same : y ≡ x = record_same t provides requires_ r y x k.0.means h.0.means in
      let moved = subst (λ (row : CatRow). RowsAre t provides requires_ (seen ++ row ∷ []) (before ++ cells ∷ rest) all) same k.1 in
      let found = row_after (seen ++ x ∷ []) before rest cells rows all h.1 moved in
      subst (λ (rs : List CatRow). HasNext rs cells) (append_assoc seen (x ∷ []) rows) found

  good_header : (header : Record) (records part : List Record) (f : Fault) → IsHeader provides requires_ header → HasBadHeader provides requires_ part f → BeginsWith (header ∷ records) part → ⊥
  good_header header records part f good h begins =
      let whole : header ∷ records ≡ h.header ∷ h.second ∷ begins.0 = begins.1 ∙ ap (λ (rs : List Record). rs ++ begins.0) h.are in
      let same : header ≡ h.header = cc in
      let here = subst (IsHeader provides requires_) same good in
      never_good (is_wide provides requires_ h.header) (HeaderIs provides requires_ h.header) f.kind h.bad here.wide here.names

  -- Good records begin with no bad one.
  good_records : (header : Record) (records : List Record) (rows : List CatRow) (part : List Record) (f : Fault) → IsHeader provides requires_ header → RowsAre t provides requires_ [] records rows → FirstBad t provides requires_ part f
      → BeginsWith (header ∷ records) part → ⊥
  good_records header records rows part f good are (inl h) begins = good_header header records part f good h begins
  good_records header records rows part f good are (inr h) begins =
      let whole : header ∷ records ≡ h.header ∷ (h.before ++ h.cells ∷ []) ++ begins.0 = begins.1 ∙ ap (λ (rs : List Record). rs ++ begins.0) h.are in
      let after : records ≡ (h.before ++ h.cells ∷ []) ++ begins.0 = cc in
      let same : records ≡ h.before ++ h.cells ∷ begins.0 = after ∙ append_assoc h.before (h.cells ∷ []) begins.0 in
      let found = row_after [] h.before begins.0 h.cells h.rows rows h.are_rows (subst (λ (rs : List Record). RowsAre t provides requires_ [] rs rows) same are) in
      never_good (is_wide provides requires_ h.cells) (HasNext h.rows h.cells) f.kind h.bad found.1.wide found

  bad_length : (records : List Record) (f : Fault) → FirstBad t provides requires_ records f → 1 < length records
  bad_length records f (inl h) = let size = ap length h.are in omega (arith, size)
  bad_length records f (inr h) = let size = ap length h.are in omega (arith, size, length-append h.before (h.cells ∷ []))

  -- A list that goes on after a bad record doesn't end with the first bad one.
  never_longer : (part whole rest : List Record) (x : Record) (f g : Fault) → FirstBad t provides requires_ part f → FirstBad t provides requires_ whole g → whole ≡ part ++ x ∷ rest → ⊥
  never_longer part whole rest x f g h (inl k) e =
      let least = bad_length part f h in
      let size = ap length (sym k.are ∙ e) in
      omega (arith, least, size, length-append part (x ∷ rest))
  never_longer part whole rest x f g h (inr k) e =
      good_records k.header k.before k.rows part f k.is_header k.are_rows h (without_last (k.header ∷ k.before) part rest k.cells x (sym k.are ∙ e))

  -- ---- the fault of the first bad one

  header_once : (records : List Record) (f g : Fault) → HasBadHeader provides requires_ records f → HasBadHeader provides requires_ records g → f ≡ g
  header_once records f g h k =
      let whole : h.header ∷ h.second ∷ [] ≡ k.header ∷ k.second ∷ [] = sym h.are ∙ k.are in
      let same : h.header ≡ k.header = cc in
      let moved = subst (λ (cells : Record). IsBad (is_wide provides requires_ cells) (HeaderIs provides requires_ cells) f.kind) same h.bad in
      bad_same (is_wide provides requires_ k.header) (HeaderIs provides requires_ k.header) f g moved k.bad (h.at ∙ sym k.at)

  header_or_record : (records : List Record) (f g : Fault) → HasBadHeader provides requires_ records f → HasBadRecord t provides requires_ records g → ⊥
  header_or_record records f g h k = good_header k.header (k.before ++ k.cells ∷ []) records f k.is_header h ([], sym k.are ∙ sym (append_nil records))

  record_once : (records : List Record) (f g : Fault) → HasBadRecord t provides requires_ records f → HasBadRecord t provides requires_ records g → f ≡ g
  record_once records f g h k =
      let whole : h.header ∷ h.before ++ h.cells ∷ [] ≡ k.header ∷ k.before ++ k.cells ∷ [] = sym h.are ∙ k.are in
      let after : h.before ++ h.cells ∷ [] ≡ k.before ++ k.cells ∷ [] = cc in
      let same = last_same h.before k.before h.cells k.cells after in
      let rows = rows_same t provides requires_ [] [] k.before h.rows k.rows (subst (λ (rs : List Record). RowsAre t provides requires_ [] rs h.rows) same.0 h.are_rows) k.are_rows in
      let moved = subst₂ (λ (rs : List CatRow) (cells : Record). IsBad (is_wide provides requires_ cells) (HasNext rs cells) f.kind) rows same.1 h.bad in
      bad_same (is_wide provides requires_ k.cells) (HasNext k.rows k.cells) f g moved k.bad (h.at ∙ ap (λ (rs : List Record). 1 + length rs) same.0 ∙ sym k.at)

  first_once : (records : List Record) (f g : Fault) → FirstBad t provides requires_ records f → FirstBad t provides requires_ records g → f ≡ g
  first_once records f g (inl h) (inl k) = header_once records f g h k
  first_once records f g (inl h) (inr k) = absurd (header_or_record records f g h k)
  first_once records f g (inr h) (inl k) = absurd (header_or_record records g f k h)
  first_once records f g (inr h) (inr k) = record_once records f g h k

  same_first : (part whole rest : List Record) (f g : Fault) → FirstBad t provides requires_ part f → FirstBad t provides requires_ whole g → whole ≡ part ++ rest → f ≡ g
  same_first part whole [] f g h k e = first_once whole f g (subst (λ (rs : List Record). FirstBad t provides requires_ rs f) (sym (e ∙ append_nil part)) h) k
  same_first part whole (x ∷ rest) f g h k e = absurd (never_longer part whole rest x f g h k e)

  -- ---- the whole table

  beginnings_same : (bytes : List ℕ) (a b : List Record) (f g : Fault) → TableBegins bytes a → TableBegins bytes b → FirstBad t provides requires_ a f → FirstBad t provides requires_ b g → f ≡ g
  beginnings_same bytes a b f g begins begins_too h k = go (begins_both default_config st.StartRecord begins.0 begins_too.0 (strip_bom bytes) begins.1 begins_too.1 a b begins.2 begins_too.2)
    where
      go : BeginsWith a b ⊎ BeginsWith b a → f ≡ g
      go (inl w) = sym (same_first b a w.0 g f k h w.1)
      go (inr w) = same_first a b w.0 f g h k w.1

  few_or_bad : (bytes : List ℕ) (f g : Fault) (records : List Record) → HasNoRows bytes f → TableBegins bytes records → FirstBad t provides requires_ records g → ⊥
  few_or_bad bytes f g records h begins bad =
      let all = table_begins bytes h.records records h.has begins in
      let size = ap length all.1 in
      let few = h.few in
      let least = bad_length records g bad in
      omega (arith, size, few, least, length-append records all.0)

  pub table_faults_same : (bytes : List ℕ) (f g : Fault) → IsTableFault t provides requires_ bytes f → IsTableFault t provides requires_ bytes g → f ≡ g
  table_faults_same bytes f g (inl h) (inl k) = h.is ∙ sym k.is
  table_faults_same bytes f g (inl h) (inr k) = absurd (few_or_bad bytes f g k.0 h k.1 k.2)
  table_faults_same bytes f g (inr h) (inl k) = absurd (few_or_bad bytes g f h.0 k h.1 h.2)
  table_faults_same bytes f g (inr h) (inr k) = beginnings_same bytes h.0 k.0 f g h.1 k.1 h.2 k.2

  pub rows_or_fault : (bytes : List ℕ) (rows : List CatRow) (f : Fault) → IsTable t provides requires_ bytes rows → IsTableFault t provides requires_ bytes f → ⊥
  rows_or_fault bytes rows f h (inl k) =
      let size = ap length (records_same default_config st.StartRecord (strip_bom bytes) (h.header ∷ h.records) k.records h.has k.has) in
      let some = h.some in
      let few = k.few in
      omega (arith, size, some, few)
  rows_or_fault bytes rows f h (inr k) = good_records h.header h.records rows k.0 f h.is_header h.are_rows k.2 (table_begins bytes (h.header ∷ h.records) k.0 h.has k.1)
