-- The texts of values and of rows.
use Rattle.std.specs.Prelude.{ℕ, ◌==◌, cond, List, [], ◌∷◌, ◌++◌, map, codes, Option, Some, None, slice_get, Result, Ok, Err}
use Rattle.std.specs.Fmt.{decimal}
use Rattle.std.specs.List.{flat_map}
use Rattle.unit_core.specs.declared.fault.FractionFault.{FractionFault}
use Rattle.unit_core.specs.Ratio.{Ratio, quotient}
use Rattle.value_type.specs.declared.kind.Kind.{Kind, fold-Kind}
use Rattle.value_type.specs.declared.kind.Kind.TheOpen.{Kind-F}
use Rattle.value_type.specs.declared.port.Port.{Port}
use Rattle.value_type.specs.declared.port.PortUnit.{PortUnit, out-PortUnit}
use Rattle.value_type.specs.declared.port.PortUnit.TheOpen.{PortUnit-F}
use Rattle.value_type.specs.declared.poset.Poset.{Poset}
use Rattle.value_type.specs.declared.poset.Types.{Types}
use Rattle.value_type.specs.declared.value.Value.{Value, out-Value}
use Rattle.value_type.specs.declared.value.Value.TheOpen.{Value-F}
use Rattle.value_type.specs.Fits.{Layer}

-- the texts after a first one, each with a comma and a space before it
abbrev pub others : List (List ℕ) → List ℕ
others = flat_map (λ text. codes ", " ++ text)

-- the texts with a comma and a space between them
abbrev pub joined : List (List ℕ) → List ℕ
joined [] = []
joined (text ∷ texts) = text ++ others texts

-- what stands before the text of this number among joined ones: nothing before the first one
abbrev pub separator : ℕ → List ℕ
separator at = cond (at == 0) [] (codes ", ")

-- a whole number, or a fraction
abbrev pub ratio_text : Ratio → List ℕ
ratio_text r = cond (r.den == 1) (decimal r.num) (decimal r.num ++ 47 ∷ decimal r.den)

-- the reduced fraction, and the unit's text after a space; each count of a port with a unit has one
abbrev pub units_text : Result Ratio FractionFault → List ℕ → List ℕ
units_text (Ok r) name = ratio_text r ++ 32 ∷ name
units_text (Err e) name = []

-- a count without a unit, or how many of the unit it is; Top has no unit
abbrev pub number_text : PortUnit-F PortUnit → Layer → List ℕ
number_text PortUnit-F.Nat (Value-F.Num n) = decimal n
number_text (PortUnit-F.Unit name size) (Value-F.Num n) = units_text (quotient n size) name
number_text unit Value-F.Top = codes "Top"
number_text _ _ = []

-- the name that is there
abbrev pub name_text : Option (List ℕ) → List ℕ
name_text (Some name) = name
name_text None = []

-- the name of the element of this number
abbrev pub element_name : Poset → ℕ → List ℕ
element_name p x = name_text (slice_get p.elements x)

-- `POSET:ELEMENT`
abbrev pub element_text : Option Poset → Layer → List ℕ
element_text (Some p) (Value-F.El x) = p.name ++ 58 ∷ element_name p x
element_text _ _ = []

-- `POSET:{A, B}`, the minimal elements in order
abbrev pub upper_text : Option Poset → Layer → List ℕ
upper_text (Some p) (Value-F.Up xs) = p.name ++ codes ":{" ++ joined (map (element_name p) xs) ++ 125 ∷ []
upper_text _ _ = []

-- one text for each part
abbrev pub part_texts : List (PortUnit → Value → List ℕ) → List PortUnit → List Value → List (List ℕ)
part_texts (text ∷ texts) (unit ∷ units) (v ∷ vs) = text unit v ∷ part_texts texts units vs
part_texts _ _ _ = []

-- `<V, V>`
abbrev pub tuple_text : List (PortUnit → Value → List ℕ) → PortUnit-F PortUnit → Layer → List ℕ
tuple_text texts (PortUnit-F.Parts units) (Value-F.Tup vs) = 60 ∷ joined (part_texts texts units vs) ++ 62 ∷ []
tuple_text _ _ _ = []

-- one level of a type, with the texts of its parts in their place
abbrev pub text_step : Types → Kind-F (PortUnit → Value → List ℕ) → PortUnit → Value → List ℕ
text_step t (Kind-F.Num dim) unit v = number_text (out-PortUnit unit) (out-Value v)
text_step t (Kind-F.Fin k) unit v = element_text (slice_get t.posets k) (out-Value v)
text_step t (Kind-F.Prod texts) unit v = tuple_text texts (out-PortUnit unit) (out-Value v)
text_step t (Kind-F.Up k) unit v = upper_text (slice_get t.posets k) (out-Value v)

-- The text of a value of a port of this type and unit. A value that doesn't fit the port may have any text.
abbrev pub value_text : Types → Kind → PortUnit → Value → List ℕ
value_text t = fold-Kind (PortUnit → Value → List ℕ) (text_step t)

-- one text for each port
abbrev pub value_texts : Types → List Port → List Value → List (List ℕ)
value_texts t (port ∷ ports) (v ∷ vs) = value_text t port.kind port.unit v ∷ value_texts t ports vs
value_texts _ _ _ = []

-- the texts joined, or `()` where there is none
abbrev pub texts_row : List (List ℕ) → List ℕ
texts_row [] = codes "()"
texts_row (text ∷ texts) = joined (text ∷ texts)

-- The text of a row with one value for each port.
abbrev pub row_text : Types → List Port → List Value → List ℕ
row_text t ports vs = texts_row (value_texts t ports vs)
