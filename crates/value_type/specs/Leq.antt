-- When a value is at most another one of its type.
use Rattle.std.specs.Prelude.{Bool, true, false, nat_le, List, Option, Some, slice_get, map}
use Rattle.order_core.specs.Finite as finite
use Rattle.order_core.specs.Tuple.{tuple_leq}
use Rattle.order_core.specs.Upper.{upper_leq}
use Rattle.value_type.specs.declared.kind.Kind.{Kind, fold-Kind}
use Rattle.value_type.specs.declared.kind.Kind.TheOpen.{Kind-F}
use Rattle.value_type.specs.declared.poset.Poset.{Poset}
use Rattle.value_type.specs.declared.poset.Types.{Types}
use Rattle.value_type.specs.declared.value.Value.{Value, out-Value}
use Rattle.value_type.specs.declared.value.Value.TheOpen.{Value-F}
use Rattle.value_type.specs.Fits.{Layer}

-- numbers by size, Top greatest
abbrev pub number_leq : Layer → Layer → Bool
number_leq (Value-F.Num a) (Value-F.Num b) = nat_le a b
number_leq (Value-F.Num a) Value-F.Top = true
number_leq Value-F.Top Value-F.Top = true
number_leq _ _ = false

-- elements by the poset's order
abbrev pub element_leq : Option Poset → Layer → Layer → Bool
element_leq (Some p) (Value-F.El a) (Value-F.El b) = finite.is_below p.order.table a b
element_leq _ _ _ = false

-- tuples part by part
abbrev pub parts_leq : List (Value → Value → Bool) → Layer → Layer → Bool
parts_leq tests (Value-F.Tup xs) (Value-F.Tup ys) = tuple_leq tests xs ys
parts_leq _ _ _ = false

-- upper sets by reverse inclusion
abbrev pub set_leq : Option Poset → Layer → Layer → Bool
set_leq (Some p) (Value-F.Up xs) (Value-F.Up ys) = upper_leq p.order.table xs ys
set_leq _ _ _ = false

-- one level of a type, with the orders of its parts in their place
abbrev pub leq_step : Types → Kind-F (Value → Value → Bool) → Value → Value → Bool
leq_step t (Kind-F.Num dim) a b = number_leq (out-Value a) (out-Value b)
leq_step t (Kind-F.Fin k) a b = element_leq (slice_get t.posets k) (out-Value a) (out-Value b)
leq_step t (Kind-F.Prod tests) a b = parts_leq tests (out-Value a) (out-Value b)
leq_step t (Kind-F.Up k) a b = set_leq (slice_get t.posets k) (out-Value a) (out-Value b)

abbrev pub leq : Types → Kind → Value → Value → Bool
leq t = fold-Kind (Value → Value → Bool) (leq_step t)

-- rows value by value
abbrev pub row_leq : Types → List Kind → List Value → List Value → Bool
row_leq t kinds = tuple_leq (map (leq t) kinds)
