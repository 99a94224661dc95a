-- Numbers as values, and back.
use Rattle.std.proofs.Common.{refl}
use Rattle.std.specs.Prelude.{◌≡◌, Option, Some, None}
use Rattle.design_model.specs.ValueOf.{number_at}
use Rattle.order_core.specs.declared.num.Num.TheVariants as number
use Rattle.order_core.specs.declared.num.Num.{Num as Number}
use Rattle.value_type.specs.Forms.{number_value}
use Rattle.value_type.specs.declared.value.Value.TheVariants.{outs-Num, outs-Top}
use Rattle.value_type.specs.declared.value.Value.{Value, out-Value}

pub number_back : (n : Number) → number_at (out-Value (number_value n)) ≡ Some n
number_back (number.Count n) = rw outs-Num refl
number_back number.Top = rw outs-Top refl

-- a number as a value, if it is there
abbrev pub as_value : Option Number → Option Value
as_value (Some n) = Some (number_value n)
as_value None = None
