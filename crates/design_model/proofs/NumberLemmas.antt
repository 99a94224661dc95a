-- Numbers as values, and back.
use Rattle.std.proofs.Common.{refl}
use Rattle.std.specs.Prelude.{◌≡◌, List, Option, Some, None}
use Rattle.design_model.specs.NumberLaws.{as_value, number_back}
use Rattle.design_model.specs.ValueOf.{number_in, of_one, of_two, tuple_of}
use Rattle.order_core.specs.declared.num.Num.{Num as Number}
use Rattle.value_type.specs.declared.value.Value.TheVariants.{outs-Tup}
use Rattle.value_type.specs.declared.value.Value.{Value}

pub of_one_number : (op : Number → Number) (a : Option Number) → of_one op a ≡ as_value (number_in (of_one op a))
of_one_number op (Some a) = rw (number_back (op a)) refl
of_one_number op None = refl

pub of_two_number : (op : Number → Number → Number) (a b : Option Number) → of_two op a b ≡ as_value (number_in (of_two op a b))
of_two_number op (Some a) (Some b) = rw (number_back (op a b)) refl
of_two_number op (Some a) None = refl
of_two_number op None b = refl

-- A tuple is no number.
pub tuple_number : (vs : Option (List Value)) → number_in (tuple_of vs) ≡ None
tuple_number (Some vs) = rw outs-Tup refl
tuple_number None = refl
