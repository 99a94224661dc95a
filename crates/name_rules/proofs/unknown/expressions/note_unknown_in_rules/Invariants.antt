use Rattle.std.proofs.Common.{◌≡◌, drop}
use Rattle.fault_list.specs.Faults.{earlier, least}
use Rattle.name_rules.specs.Unknown.{rules_unknown}
use Rattle.name_rules.proofs.unknown.expressions.note_unknown_in_rules.Given as goal

-- What is left decides.
abbrev pub invariant-loop-rule : goal.invariant-loop-rule
invariant-loop-rule g l =
    earlier l.first (least (rules_unknown (g.L.Library.known l.library) (drop l.rule-index l.rules)))
    ≡ earlier l.initial.first (least (rules_unknown (g.L.Library.known l.library) l.rules))
