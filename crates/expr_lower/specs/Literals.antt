-- Elements and upper sets of posets, as a text names them.
use Rattle.std.specs.Prelude.{ℕ, List, [], ◌∷◌, Option, Some, None, option_and_then, option_map, slice_get}
use Rattle.design_lexer.specs.declared.tree.NameAt.{NameAt}
use Rattle.design_model.specs.declared.expr.Expr.TheVariants as expr
use Rattle.expr_lower.specs.declared.meaning.Lower.{Lower}
use Rattle.fault_list.specs.declared.fault.Fault.{Fault}
use Rattle.order_core.specs.MinimalElements.{minimal_of}
use Rattle.tree_units.specs.Elements.{element_place, elements_named, unknown, unknown_elements}
use Rattle.tree_units.specs.Posets.{poset_place}
use Rattle.value_type.specs.declared.kind.Kind.TheVariants as kind
use Rattle.value_type.specs.declared.poset.Poset.{Poset}
use Rattle.value_type.specs.declared.poset.Types.{Types}
use Rattle.value_type.specs.declared.value.Value.TheVariants as value

-- the poset of this name
abbrev pub poset_named : Types → List ℕ → Option Poset
poset_named types name = option_and_then (slice_get types.posets) (poset_place types name)

-- The poset isn't there, or of one that is there some elements aren't.
abbrev pub unknown_names : NameAt → Option Poset → List NameAt → List Fault
unknown_names name None elements = unknown name ∷ []
unknown_names name (Some poset) elements = unknown_elements poset elements

-- the faults of a literal, which names a poset and elements of it
abbrev pub literal_faults : Types → NameAt → List NameAt → List Fault
literal_faults types poset elements = unknown_names poset (poset_named types poset.name) elements

-- what is made of the number of the poset of this name, and of the poset
abbrev pub of_poset : Types → List ℕ → (ℕ → Poset → Option Lower) → Option Lower
of_poset types name made = option_and_then (λ k. option_and_then (made k) (slice_get types.posets k)) (poset_place types name)

-- the element of a poset, as an expression of the poset's type
abbrev pub element_in : List ℕ → ℕ → Poset → Option Lower
element_in name k poset = option_map (λ x. record { kind = kind.Fin k; expr = expr.Constant (value.El x) }) (element_place poset name)

-- the element that a literal names, if it is there
abbrev pub element_of : Types → NameAt → NameAt → Option Lower
element_of types poset element = of_poset types poset.name (element_in element.name)

-- the upper set of the elements named, as an expression of the type of the poset's upper sets
abbrev pub upper_in : List NameAt → ℕ → Poset → Option Lower
upper_in names k poset = option_map (λ xs. record { kind = kind.Up k; expr = expr.Constant (value.Up (minimal_of poset.order.table xs)) }) (elements_named poset names)

-- the upper set that a literal names, if each of its elements is there
abbrev pub upper_of : Types → NameAt → List NameAt → Option Lower
upper_of types poset elements = of_poset types poset.name (upper_in elements)
