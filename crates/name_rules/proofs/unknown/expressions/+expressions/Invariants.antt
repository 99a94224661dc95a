use Rattle.std.proofs.Common.{◌≡◌, drop}
use Rattle.std.specs.List.{flat_map}
use Rattle.fault_list.specs.Faults.{earlier, least}
use Rattle.name_rules.specs.Unknown.{expr_unknown}
use Rattle.name_rules.proofs.unknown.expressions.+expressions.Given as goal

-- What is left decides.
abbrev pub invariant-note_unknown_in_parts-loop-part : goal.invariant-note_unknown_in_parts-loop-part
invariant-note_unknown_in_parts-loop-part g l =
    earlier l.first (least (flat_map (expr_unknown (g.L.Library.known l.library)) (drop l.part-index l.parts)))
    ≡ earlier l.initial.first (least (flat_map (expr_unknown (g.L.Library.known l.library)) l.parts))
