use Rattle.std.proofs.Common.{◌≡◌, drop}
use Rattle.fault_list.specs.Faults.{earlier, least}
use Rattle.name_rules.specs.Unknown.{unknown_units}
use Rattle.name_rules.proofs.unknown.types.note_unknown_units.Given as goal

-- What is left decides.
abbrev pub invariant-loop-factor : goal.invariant-loop-factor
invariant-loop-factor l = earlier l.first (least (unknown_units (drop l.factor-index l.factors))) ≡ earlier l.initial.first (least (unknown_units l.factors))
