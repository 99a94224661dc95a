-- Types that are put together in the same way.
use Rattle.std.specs.Prelude.{Bool, true, false, ◌==◌}
use Rattle.order_core.specs.Tuple.{are_values}
use Rattle.unit_core.specs.declared.dim.Dim.{Dim}
use Rattle.unit_core.specs.Dimension.{same_dim}
use Rattle.value_type.specs.declared.kind.Kind.{Kind, out-Kind}
use Rattle.value_type.specs.declared.kind.Kind.TheFolds.{fold-Kind}
use Rattle.value_type.specs.declared.kind.Kind.TheOpen.{Kind-F}

-- one level of a type, with the tests of its parts in their place
abbrev pub form_step : (Dim → Dim → Bool) → Kind-F (Kind → Bool) → Kind-F Kind → Bool
form_step dims (Kind-F.Num a) (Kind-F.Num b) = dims a b
form_step dims (Kind-F.Fin a) (Kind-F.Fin b) = a == b
form_step dims (Kind-F.Prod tests) (Kind-F.Prod kinds) = are_values tests kinds
form_step dims (Kind-F.Up a) (Kind-F.Up b) = a == b
form_step dims _ _ = false

-- The types are the same but for the dimensions of numbers, and these pass the test.
abbrev pub forms_match : (Dim → Dim → Bool) → Kind → Kind → Bool
forms_match dims = fold-Kind (Kind → Bool) (λ a b. form_step dims a (out-Kind b))

-- The types are the same, if all number types are taken as one.
abbrev pub same_form : Kind → Kind → Bool
same_form = forms_match (λ a b. true)

-- The types are the same.
abbrev pub same_kind : Kind → Kind → Bool
same_kind = forms_match same_dim
