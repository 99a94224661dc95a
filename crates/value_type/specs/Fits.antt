-- Which values a type has.
use Rattle.std.specs.Prelude.{Bool, true, false, nat_le, List, Option, Some, slice_get, map}
use Rattle.order_core.specs.Finite as finite
use Rattle.order_core.specs.Tuple.{are_values}
use Rattle.order_core.specs.Upper as upper
use Rattle.value_type.specs.declared.kind.Kind.{Kind, fold-Kind}
use Rattle.value_type.specs.declared.kind.Kind.TheOpen.{Kind-F}
use Rattle.value_type.specs.declared.poset.Poset.{Poset}
use Rattle.value_type.specs.declared.poset.Types.{Types}
use Rattle.value_type.specs.declared.value.Value.{Value, out-Value}
use Rattle.value_type.specs.declared.value.Value.TheOpen.{Value-F}

-- a value, seen one level deep
abbrev pub Layer : Type 0
Layer = Value-F Value

-- a count of at most ten to the nineteenth, or Top
abbrev pub is_number : Layer → Bool
is_number (Value-F.Num n) = nat_le n 10000000000000000000
is_number Value-F.Top = true
is_number _ = false

-- an element of the poset, if it is there
abbrev pub is_element : Option Poset → Layer → Bool
is_element (Some p) (Value-F.El x) = finite.is_element p.order.table x
is_element _ _ = false

-- an upper set of the poset, if it is there
abbrev pub is_upper : Option Poset → Layer → Bool
is_upper (Some p) (Value-F.Up xs) = upper.is_upper p.order.table xs
is_upper _ _ = false

-- a tuple whose parts pass the tests
abbrev pub is_tuple : List (Value → Bool) → Layer → Bool
is_tuple tests (Value-F.Tup xs) = are_values tests xs
is_tuple _ _ = false

-- one level of a type, with the tests of its parts in their place
abbrev pub fits_step : Types → Kind-F (Value → Bool) → Value → Bool
fits_step t (Kind-F.Num dim) v = is_number (out-Value v)
fits_step t (Kind-F.Fin k) v = is_element (slice_get t.posets k) (out-Value v)
fits_step t (Kind-F.Prod tests) v = is_tuple tests (out-Value v)
fits_step t (Kind-F.Up k) v = is_upper (slice_get t.posets k) (out-Value v)

abbrev pub fits : Types → Kind → Value → Bool
fits t = fold-Kind (Value → Bool) (fits_step t)

-- one value for each type
abbrev pub row_fits : Types → List Kind → List Value → Bool
row_fits t kinds = are_values (map (fits t) kinds)
