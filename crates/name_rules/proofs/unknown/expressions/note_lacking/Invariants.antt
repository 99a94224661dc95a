use Rattle.std.proofs.Common.{◌≡◌, drop}
use Rattle.fault_list.specs.Faults.{earlier, least}
use Rattle.name_rules.specs.Unknown.{unknown_names}
use Rattle.name_rules.proofs.unknown.expressions.note_lacking.Given as goal

-- What is left decides.
abbrev pub invariant-loop-element : goal.invariant-loop-element
invariant-loop-element g l =
    earlier l.first (least (unknown_names ((g.L.Library.known l.library).element l.poset.name) (drop l.element-index l.elements)))
    ≡ earlier l.initial.first (least (unknown_names ((g.L.Library.known l.library).element l.poset.name) l.elements))
