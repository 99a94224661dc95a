-- The cells of a record in turn.
use Rattle.std.proofs.Common.{◌≡◌, ◌∙◌, ◌<◌, ◌≤◌, ◌+◌, ℕ, zero, suc, refl, ap, sym, subst, List, [], ◌∷◌, ◌++◌, length, drop, get_or, append_assoc, arith, Some, None}
use Rattle.std.specs.Prelude.{Result, Ok, Err, codes}
use Rattle.std.proofs.lemmas.List.{drop_more, drop_all}
use Rattle.order_core.specs.MemberLaws.{append_nil}
use Rattle.csv.specs.Records.{field_at}
use Rattle.value_type.specs.declared.port.Port.{Port}
use Rattle.value_type.specs.declared.poset.Types.{Types}
use Rattle.value_type.specs.declared.value.Value.{Value}
use Rattle.design_model.specs.declared.design.CatRow.{CatRow}
use Rattle.row_values.specs.declared.value.CellFault.{CellFault}
use Rattle.row_values.specs.declared.value.CellFault.TheVariants as fault
use Rattle.row_values.specs.declared.value.Rounding.{Rounding}
use Rattle.row_values.specs.Cells.{CellIs, Finds, IsName}
use Rattle.row_values.specs.Tables.{AreNames, CellsAre, HeaderIs, Record, RecordIs}

-- the cells from a place on begin with the one at the place
pub front_at : (cells : Record) (i : ℕ) (c : List ℕ) → Some c ≡ field_at cells i → drop i cells ≡ c ∷ drop (i + 1) cells
unfolding field_at
front_at [] i c e = absurd (cc)
front_at (d ∷ cells) zero c e = let same : c ≡ d = cc in ap (λ x. x ∷ cells) (sym same)
front_at (d ∷ cells) (suc i) c e = let more : suc i + 1 ≡ suc (i + 1) = omega arith in rw more (front_at cells i c e)

pub none_at : (cells : Record) (i : ℕ) → None ≡ field_at cells i → drop i cells ≡ []
unfolding field_at
none_at [] zero e = refl
none_at [] (suc i) e = refl
none_at (d ∷ cells) zero e = absurd (cc)
none_at (d ∷ cells) (suc i) e = none_at cells i e

-- The values so far, followed by those of the ports left, are all values, and there are some for the ports left where there are some for all.
pub record CellsLeft (t : Types) (r : Rounding) (ports : List Port) (cells : Record) (from i : ℕ) (made : List Value) : Type 0 where
  pub whole : (vs : List Value) → CellsAre t r (drop i ports) (drop (from + i) cells) vs → CellsAre t r ports (drop from cells) (made ++ vs)
  pub part : (vs : List Value) → CellsAre t r ports (drop from cells) vs → (rest : List Value) × CellsAre t r (drop i ports) (drop (from + i) cells) rest

tail_of : (t : Types) (r : Rounding) (p : Port) (ps : List Port) (c : List ℕ) (cs : Record) (vs : List Value) → CellsAre t r (p ∷ ps) (c ∷ cs) vs → (v : Value) × (rest : List Value) × CellIs t r p.kind c v × CellsAre t r ps cs rest
tail_of t r p ps c cs [] h = absurd h
tail_of t r p ps c cs (v ∷ vs) h = (v, vs, h.0, h.1)

module _ (t : Types) (r : Rounding) (ports : List Port) (cells : Record) (from i : ℕ) (made : List Value) (p : Port) (left : CellsLeft t r ports cells from i made) (inside : i < length ports) (p-is : p ≡ get_or ports i p) where
  ports_front : drop i ports ≡ p ∷ drop (i + 1) ports
  ports_front = drop_more ports i p inside ∙ ap (λ y. y ∷ drop (i + 1) ports) (sym p-is)

  module _ (c : List ℕ) (c-is : Some c ≡ field_at cells (from + i)) where
    cells_front : drop (from + i) cells ≡ c ∷ drop (from + (i + 1)) cells
    cells_front = let more : from + (i + 1) ≡ from + i + 1 = omega arith in rw more (front_at cells (from + i) c c-is)

    pub cells_next : (v : Value) → CellIs t r p.kind c v → CellsLeft t r ports cells from (i + 1) (made ++ v ∷ [])
    cells_next v is = record {
      whole = λ vs h. rw append_assoc (left.whole (v ∷ vs) (rw (ports_front, cells_front) (is, h)));
      part = λ vs h. let some = left.part vs h in let q = tail_of t r p (drop (i + 1) ports) c (drop (from + (i + 1)) cells) some.0 (rw (ports_front, cells_front) at some.1) in (q.1, q.3);
    }

    pub cells_refused : (e : CellFault) → Finds (CellIs t r p.kind c) (Err e) → Finds (CellsAre t r ports (drop from cells)) (Err e)
    cells_refused fault.Bad never = λ vs h. let some = left.part vs h in let q = tail_of t r p (drop (i + 1) ports) c (drop (from + (i + 1)) cells) some.0 (rw (ports_front, cells_front) at some.1) in never q.0 q.2
    cells_refused fault.Memory never = tt

  pub cells_missing : None ≡ field_at cells (from + i) → (vs : List Value) → CellsAre t r ports (drop from cells) vs → ⊥
  cells_missing none vs h = let some = left.part vs h in (rw (ports_front, none_at cells (from + i) none) at some.1)

pub cells_start : (t : Types) (r : Rounding) (ports : List Port) (cells : Record) (from : ℕ) → CellsLeft t r ports cells from 0 []
cells_start t r ports cells from = let same : from + 0 ≡ from = omega arith in record { whole = λ vs h. rw same at h; part = λ vs h. (vs, rw same h) }

pub cells_done : (t : Types) (r : Rounding) (ports : List Port) (cells : Record) (from i : ℕ) (made : List Value) → CellsLeft t r ports cells from i made → length ports ≤ i → CellsAre t r ports (drop from cells) made
cells_done t r ports cells from i made left end =
    let none : CellsAre t r (drop i ports) (drop (from + i) cells) [] = rw (drop_all i ports end) tt in
    rw (append_nil made) at (left.whole [] none)

-- the name of a row is that of the first cell
pub name_in : (t : Types) (provides requires_ : List Port) (cells : Record) (c : List ℕ) → Some c ≡ field_at cells 0 → (row : CatRow) → RecordIs t provides requires_ cells row → IsName c row.name
name_in t provides requires_ cells c e row h =
    let two : Some c ≡ Some h.name_cell = e ∙ h.there in
    let same : h.name_cell ≡ c = cc in
    subst (λ x. IsName x row.name) same h.name

-- Where a cell is missing, the names aren't there.
pub names_missing : (ports : List Port) (cells : Record) (from i : ℕ) (p : Port) → i < length ports → p ≡ get_or ports i p → None ≡ field_at cells (from + i) → AreNames (drop i ports) (drop (from + i) cells) → ⊥
names_missing ports cells from i p inside is none h =
    let ports_front = drop_more ports i p inside ∙ ap (λ (y : Port). y ∷ drop (i + 1) ports) (sym is) in
    (rw (ports_front, none_at cells (from + i) none) at h)

module _ (ports : List Port) (cells : Record) (from i : ℕ) (p : Port) (inside : i < length ports) (p-is : p ≡ get_or ports i p) (c : List ℕ) (c-is : Some c ≡ field_at cells (from + i)) where
  -- The names left begin with that of one port.
  names_front : AreNames (drop i ports) (drop (from + i) cells) ≡ (IsName c p.name × AreNames (drop (i + 1) ports) (drop (from + (i + 1)) cells))
  names_front =
      let more : from + (i + 1) ≡ from + i + 1 = omega arith in
      let ports_front = drop_more ports i p inside ∙ ap (λ (y : Port). y ∷ drop (i + 1) ports) (sym p-is) in
      let cells_front : drop (from + i) cells ≡ c ∷ drop (from + (i + 1)) cells = rw more (front_at cells (from + i) c c-is) in
      λ k. AreNames (ports_front k) (cells_front k)

  abbrev NamesLeft : ℕ → Type 0
  NamesLeft j = (AreNames (drop j ports) (drop (from + j) cells) → AreNames ports (drop from cells)) × (AreNames ports (drop from cells) → AreNames (drop j ports) (drop (from + j) cells))

  pub names_next : NamesLeft i → IsName c p.name → NamesLeft (i + 1)
  names_next left is = (λ rest. left.0 (subst (λ (T : Type 0). T) (sym names_front) (is, rest)), λ all. (subst (λ (T : Type 0). T) names_front (left.1 all)).1)

  pub names_refused : NamesLeft i → (e : CellFault) → Finds {A = Unit {0}} (λ _. IsName c p.name) (Err e) → Finds {A = Unit {0}} (λ _. AreNames ports (drop from cells)) (Err e)
  names_refused left fault.Bad never = λ x all. never x (subst (λ (T : Type 0). T) names_front (left.1 all)).0
  names_refused left fault.Memory never = tt

-- A header is found where its names are.
pub header_found : (provides requires_ : List Port) (cells : Record) (c : List ℕ) → Some c ≡ field_at cells 0 → IsName c (codes "name") → AreNames provides (drop 1 cells) → (result : Result (Unit {0}) CellFault)
    → Finds (λ _. AreNames requires_ (drop (1 + length provides) cells)) result → Finds (λ _. HeaderIs provides requires_ cells) result
header_found provides requires_ cells c e name provided (Ok x) h = record { name_cell = c; there = sym e; name = name; provided = provided; required = h }
header_found provides requires_ cells c e name provided (Err fault.Bad) h = λ x is. h x is.required
header_found provides requires_ cells c e name provided (Err fault.Memory) h = tt

-- The name of a header is that of its first cell.
pub header_name : (provides requires_ : List Port) (cells : Record) (c : List ℕ) → Some c ≡ field_at cells 0 → HeaderIs provides requires_ cells → IsName c (codes "name")
header_name provides requires_ cells c e h =
    let two : Some c ≡ Some h.name_cell = e ∙ h.there in
    let same : h.name_cell ≡ c = cc in
    subst (λ x. IsName x (codes "name")) same h.name
