-- Ports whose unit has the form of their type.
use Rattle.std.specs.Prelude.{Bool, true, false, ◌&&◌, nat_le, List}
use Rattle.order_core.specs.Tuple.{are_values}
use Rattle.value_type.specs.declared.kind.Kind.{Kind}
use Rattle.value_type.specs.declared.kind.Kind.TheFolds.{fold-Kind}
use Rattle.value_type.specs.declared.kind.Kind.TheOpen.{Kind-F}
use Rattle.value_type.specs.declared.port.Port.{Port}
use Rattle.value_type.specs.declared.port.PortUnit.{PortUnit, out-PortUnit}
use Rattle.value_type.specs.declared.port.PortUnit.TheOpen.{PortUnit-F}

-- Nat, or a unit with a size from 1 to ten to the nineteenth
abbrev pub counts_units : PortUnit-F PortUnit → Bool
counts_units PortUnit-F.Nat = true
counts_units (PortUnit-F.Unit text size) = nat_le 1 size && nat_le size 10000000000000000000
counts_units _ = false

abbrev pub names_poset : PortUnit-F PortUnit → Bool
names_poset PortUnit-F.Poset = true
names_poset _ = false

-- one unit for each part, of the right form
abbrev pub has_parts : List (PortUnit → Bool) → PortUnit-F PortUnit → Bool
has_parts tests (PortUnit-F.Parts units) = are_values tests units
has_parts _ _ = false

-- one level of a type, with the tests for its parts in their place
abbrev pub unit_step : Kind-F (PortUnit → Bool) → PortUnit → Bool
unit_step (Kind-F.Num dim) unit = counts_units (out-PortUnit unit)
unit_step (Kind-F.Fin k) unit = names_poset (out-PortUnit unit)
unit_step (Kind-F.Prod tests) unit = has_parts tests (out-PortUnit unit)
unit_step (Kind-F.Up k) unit = names_poset (out-PortUnit unit)

abbrev pub unit_fits : Kind → PortUnit → Bool
unit_fits = fold-Kind (PortUnit → Bool) unit_step

-- The port is whole: its unit has the form of its type.
abbrev pub is_whole : Port → Bool
is_whole port = unit_fits port.kind port.unit
