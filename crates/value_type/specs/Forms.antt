-- The forms of values, and numbers as values.
use Rattle.std.specs.Prelude.{Bool, true, false}
use Rattle.value_type.specs.declared.value.Value.TheOpen.{Value-F}
use Rattle.order_core.specs.declared.num.Num.{Num as Number}
use Rattle.order_core.specs.declared.num.Num.TheVariants as number
use Rattle.value_type.specs.declared.value.Value.{Value}
use Rattle.value_type.specs.declared.value.Value.TheVariants as value
use Rattle.value_type.specs.Fits.{Layer}

abbrev pub is_one : Layer → Bool
is_one (Value-F.El x) = true
is_one _ = false

abbrev pub is_many : Layer → Bool
is_many (Value-F.Tup xs) = true
is_many _ = false

abbrev pub is_set : Layer → Bool
is_set (Value-F.Up xs) = true
is_set _ = false

-- a number as a value
abbrev pub number_value : Number → Value
number_value (number.Count n) = value.Num n
number_value number.Top = value.Top
