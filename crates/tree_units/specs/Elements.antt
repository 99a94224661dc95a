-- Elements of posets, as a text names them.
use Rattle.std.specs.Prelude.{ℕ, List, Option, map}
use Rattle.std.specs.List.{flat_map, position_from}
use Rattle.std.specs.Str.{bytes_eq}
use Rattle.design_lexer.specs.declared.tree.NameAt.{NameAt}
use Rattle.fault_list.specs.Faults.{fault_unless}
use Rattle.fault_list.specs.declared.fault.Fault.{Fault}
use Rattle.fault_list.specs.declared.fault.FaultKind.TheVariants.{Unknown}
use Rattle.tree_units.specs.Together.{together}
use Rattle.value_type.specs.declared.poset.Poset.{Poset}

-- the number of the first element of this name
abbrev pub element_place : Poset → List ℕ → Option ℕ
element_place poset name = position_from (λ n. bytes_eq name n) 0 poset.elements

-- the numbers of the elements named, if each is there
abbrev pub elements_named : Poset → List NameAt → Option (List ℕ)
elements_named poset names = together (map (λ name. element_place poset name.name) names)

-- The name leads nowhere.
abbrev pub unknown : NameAt → Fault
unknown name = record { kind = Unknown; at = name.at }

-- the names that no element of the poset has
abbrev pub unknown_elements : Poset → List NameAt → List Fault
unknown_elements poset names = flat_map (λ name. fault_unless (element_place poset name.name) (unknown name)) names
