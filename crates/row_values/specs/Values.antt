-- What the tree of a value means for a type.
use Rattle.std.specs.Prelude.{◌≡◌, ℕ, cond, List, [], ◌∷◌, Option, Some, None, Result, Ok, Err, slice_get, option_map, option_and_then}
use Rattle.std.specs.Str.{bytes_eq}
use Rattle.design_lexer.specs.declared.tree.ConstantTree.{ConstantTree}
use Rattle.design_lexer.specs.declared.tree.ValueTree.{ValueTree, out-ValueTree}
use Rattle.design_lexer.specs.declared.tree.ValueTree.TheOpen.{ValueTree-F}
use Rattle.order_core.specs.MinimalElements.{minimal_of}
use Rattle.row_values.specs.declared.value.CellFault.{CellFault}
use Rattle.row_values.specs.declared.value.CellFault.TheVariants as fault
use Rattle.row_values.specs.declared.value.Rounding.{Rounding}
use Rattle.row_values.specs.declared.value.Rounding.TheVariants as rounding
use Rattle.tree_units.specs.Constants.{constant_of}
use Rattle.tree_units.specs.Elements.{element_place, elements_named}
use Rattle.tree_units.specs.Together.{with_first}
use Rattle.tree_units.specs.declared.constant.Constant.{Constant}
use Rattle.unit_core.specs.Dimension.{same_dim}
use Rattle.unit_core.specs.Rounding.{ceiling, floor}
use Rattle.unit_core.specs.declared.dim.Dim.{Dim}
use Rattle.unit_core.specs.declared.fraction.Fraction.{Fraction}
use Rattle.value_type.specs.declared.kind.Kind.{Kind}
use Rattle.value_type.specs.declared.kind.Kind.TheFolds.{fold-Kind}
use Rattle.value_type.specs.declared.kind.Kind.TheOpen.{Kind-F}
use Rattle.value_type.specs.declared.poset.Poset.{Poset}
use Rattle.value_type.specs.declared.poset.Types.{Types}
use Rattle.value_type.specs.declared.value.Value.{Value}
use Rattle.value_type.specs.declared.value.Value.TheVariants as value

-- What is meant, or Bad exactly where nothing is. Want of memory says nothing.
abbrev pub Gives : {A : Type 0} → Option A → Result A CellFault → Type 0
Gives meant (Ok x) = meant ≡ Some x
Gives meant (Err fault.Bad) = meant ≡ None
Gives meant (Err fault.Memory) = Unit {0}

-- a value, seen one level deep
abbrev pub Layer : Type 0
Layer = ValueTree-F ValueTree

-- one thing for each tree, if there are as many as tests and each means one
abbrev pub each_meant : {A B : Type 0} → List (A → Option B) → List A → Option (List B)
each_meant [] [] = Some []
each_meant (f ∷ fs) (x ∷ xs) = with_first (f x) (each_meant fs xs)
each_meant [] (x ∷ xs) = None
each_meant (f ∷ fs) [] = None

-- ---- numbers

abbrev pub rounded : Rounding → Fraction → ℕ
rounded rounding.Up f = ceiling f.num f.den
rounded rounding.Down f = floor f.num f.den

-- a constant of this dimension, as a whole count
abbrev pub counted : Rounding → Dim → Constant → Option Value
counted r dim c = cond (same_dim c.dim dim) (Some (value.Num (rounded r c.fraction))) None

abbrev pub count_meant : Rounding → Dim → ConstantTree → Option Value
count_meant r dim c = option_and_then (counted r dim) (constant_of c)

-- Top, or the count of a constant
abbrev pub number_meant : Rounding → Dim → Layer → Option Value
number_meant r dim (ValueTree-F.Top at) = Some value.Top
number_meant r dim (ValueTree-F.Constant c) = count_meant r dim c
number_meant r dim _ = None

-- ---- elements and upper sets

-- the poset, if it has this name
abbrev pub if_named : List ℕ → Poset → Option Poset
if_named name p = cond (bytes_eq name p.name) (Some p) None

-- the poset of this number, if it has this name
abbrev pub poset_at : Types → ℕ → List ℕ → Option Poset
poset_at t k name = option_and_then (if_named name) (slice_get t.posets k)

-- the element named, of the poset of this number
abbrev pub element_meant : Types → ℕ → Layer → Option Value
element_meant t k (ValueTree-F.Element poset element) = option_and_then (λ p. option_map value.El (element_place p element.name)) (poset_at t k poset.name)
element_meant t k _ = None

-- the upper set of the elements named, of the poset of this number
abbrev pub upper_meant : Types → ℕ → Layer → Option Value
upper_meant t k (ValueTree-F.Upper poset elements) = option_and_then (λ p. option_map (λ xs. value.Up (minimal_of p.order.table xs)) (elements_named p elements)) (poset_at t k poset.name)
upper_meant t k _ = None

-- ---- values

-- a tuple with one value for each type
abbrev pub tuple_meant : List (ValueTree → Option Value) → Layer → Option Value
tuple_meant parts (ValueTree-F.Tuple at trees) = option_map value.Tup (each_meant parts trees)
tuple_meant parts _ = None

-- one level of a type, with what trees mean for its parts in their place
abbrev pub value_step : Types → Rounding → Kind-F (ValueTree → Option Value) → ValueTree → Option Value
value_step t r (Kind-F.Num dim) tree = number_meant r dim (out-ValueTree tree)
value_step t r (Kind-F.Fin k) tree = element_meant t k (out-ValueTree tree)
value_step t r (Kind-F.Prod parts) tree = tuple_meant parts (out-ValueTree tree)
value_step t r (Kind-F.Up k) tree = upper_meant t k (out-ValueTree tree)

-- the value of the type that the tree means, if it means one
abbrev pub value_meant : Types → Rounding → Kind → ValueTree → Option Value
value_meant t r = fold-Kind (ValueTree → Option Value) (value_step t r)
