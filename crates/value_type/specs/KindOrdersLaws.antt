-- The orders of values are orders on what each type has.
use Rattle.std.specs.Prelude.{Bool}
use Rattle.std.proofs.Common.{refl}
use Rattle.value_type.specs.declared.poset.Types.{Types}
use Rattle.value_type.specs.declared.value.Value.{Value}
use Rattle.value_type.specs.Fits.{fits, fits_step}
use Rattle.value_type.specs.KindLaws.{embeds-Num, embeds-Prod}
use Rattle.value_type.specs.KindOrderLaws.{kind_laws}
use Rattle.value_type.specs.KindOrders.{AreKindOrders}
use Rattle.value_type.specs.Leq.{leq, leq_step}
use Rattle.value_type.specs.SameFormLaws.{shared_by_form}

pub values_are_ordered : (t : Types) → AreKindOrders t (fits t) (leq t)
values_are_ordered t = record {
  laws = kind_laws t;
  values = λ k v h. h;
  numbers = embeds-Num t;
  tuples = embeds-Prod t;
  by_form = shared_by_form (Value → Bool) (fits_step t) (λ a b. refl);
  order_by_form = shared_by_form (Value → Value → Bool) (leq_step t) (λ a b. refl);
}
