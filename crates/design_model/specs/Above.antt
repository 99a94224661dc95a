-- Whether a value is at least that of an expression, as a test.
use Rattle.std.specs.Prelude.{Bool, false, List, Option, Some, None}
use Rattle.value_type.specs.declared.kind.Kind.{Kind}
use Rattle.value_type.specs.declared.poset.Types.{Types}
use Rattle.value_type.specs.declared.value.Value.{Value}
use Rattle.value_type.specs.Leq.{leq, row_leq}
use Rattle.design_model.specs.Rows.{Row}

-- The lower value is there, and x is at least it.
abbrev pub is_above : Types → Kind → Value → Option Value → Bool
is_above t kind x (Some lower) = leq t kind lower x
is_above t kind x None = false

-- The lower values are there, and each of xs is at least its partner.
abbrev pub are_above : Types → List Kind → Row → Option Row → Bool
are_above t kinds xs (Some lower) = row_leq t kinds lower xs
are_above t kinds xs None = false

-- The port is there, and x is there and at least the lower value.
abbrev pub is_at_least : Types → Option Kind → Option Value → Option Value → Bool
is_at_least t (Some kind) (Some x) lower = is_above t kind x lower
is_at_least t (Some kind) None lower = false
is_at_least t None upper lower = false
