use Rattle.std.proofs.Common.{◌≡◌, take}
use Rattle.value_type.proofs.copy.+copy_unit.Given as goal

-- The units so far are copied.
abbrev pub invariant-copy_units-loop-unit : goal.invariant-copy_units-loop-unit
invariant-copy_units-loop-unit l = l.made.items ≡ take l.unit-index l.units
