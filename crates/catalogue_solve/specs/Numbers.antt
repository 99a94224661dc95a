-- Rows of numbers alone.
use Rattle.std.specs.Prelude.{Bool, true, false, List}
use Rattle.std.specs.List.{list_all}
use Rattle.value_type.specs.declared.kind.Kind.{Kind, out-Kind}
use Rattle.value_type.specs.declared.kind.Kind.TheOpen.{Kind-F}

-- the type is one of numbers, seen one level deep
abbrev pub is_number_layer : Kind-F Kind → Bool
is_number_layer (Kind-F.Num dim) = true
is_number_layer _ = false

-- all types are of numbers
abbrev pub are_numbers : List Kind → Bool
are_numbers kinds = list_all (λ kind. is_number_layer (out-Kind kind)) kinds
