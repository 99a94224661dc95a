-- The texts of the parts of tuples and of the values of rows, one after the other.
use Rattle.std.proofs.Common.{◌≡◌, refl, ap, sym, ◌∙◌, ℕ, ◌+◌, ◌<◌, List, [], ◌∷◌, length, map, get_or, drop, arith}
use Rattle.std.proofs.lemmas.List.{drop_more}
use Rattle.std.specs.Prelude.{codes}
use Rattle.report_text.specs.Texts.{joined, part_texts, row_text, value_text, value_texts}
use Rattle.value_type.specs.declared.kind.Kind.{Kind}
use Rattle.value_type.specs.declared.port.Port.{Port}
use Rattle.value_type.specs.declared.port.PortUnit.{PortUnit}
use Rattle.value_type.specs.declared.poset.Types.{Types}
use Rattle.value_type.specs.declared.value.Value.{Value}

pub no_parts : (texts : List (PortUnit → Value → List ℕ)) (units : List PortUnit) → part_texts texts units [] ≡ []
no_parts [] units = refl
no_parts (text ∷ texts) [] = refl
no_parts (text ∷ texts) (unit ∷ units) = refl

pub no_values : (t : Types) (ports : List Port) → value_texts t ports [] ≡ []
no_values t [] = refl
no_values t (port ∷ ports) = refl

pub no_ports_row : (t : Types) (ports : List Port) (values : List Value) → length ports ≡ 0 → row_text t ports values ≡ codes "()"
no_ports_row t [] values h = refl
no_ports_row t (port ∷ ports) values h = absurd (omega arith)

pub no_values_row : (t : Types) (ports : List Port) (values : List Value) → length values ≡ 0 → row_text t ports values ≡ codes "()"
no_values_row t [] values h = refl
no_values_row t (port ∷ ports) [] h = refl
no_values_row t (port ∷ ports) (v ∷ values) h = absurd (omega arith)

pub row_joined : (t : Types) (ports : List Port) (values : List Value) → 0 < length ports → 0 < length values → row_text t ports values ≡ joined (value_texts t ports values)
row_joined t [] values h g = absurd (omega arith)
row_joined t (port ∷ ports) [] h g = absurd (omega arith)
row_joined t (port ∷ ports) (v ∷ values) h g = refl

next_item : {A : Type 0} (xs : List A) (at : ℕ) (x : A) → at < length xs → x ≡ get_or xs at x → drop at xs ≡ x ∷ drop (at + 1) xs
next_item xs at x there is = drop_more xs at x there ∙ ap (λ y. y ∷ drop (at + 1) xs) (sym is)

module _ (t : Types) (at : ℕ) (values : List Value) (v : Value) (v_there : at < length values) (v_is : v ≡ get_or values at v) where
  pub next_part : (kinds : List Kind) (kind : Kind) → at < length kinds → kind ≡ get_or kinds at kind → (units : List PortUnit) (unit : PortUnit) → at < length units → unit ≡ get_or units at unit
      → part_texts (map (value_text t) (drop at kinds)) (drop at units) (drop at values)
      ≡ value_text t kind unit v ∷ part_texts (map (value_text t) (drop (at + 1) kinds)) (drop (at + 1) units) (drop (at + 1) values)
  next_part kinds kind kind_there kind_is units unit unit_there unit_is =
      rw (next_item kinds at kind kind_there kind_is, next_item units at unit unit_there unit_is, next_item values at v v_there v_is) refl

  pub next_value : (ports : List Port) (port : Port) → at < length ports → port ≡ get_or ports at port
      → value_texts t (drop at ports) (drop at values) ≡ value_text t port.kind port.unit v ∷ value_texts t (drop (at + 1) ports) (drop (at + 1) values)
  next_value ports port port_there port_is = rw (next_item ports at port port_there port_is, next_item values at v v_there v_is) refl
