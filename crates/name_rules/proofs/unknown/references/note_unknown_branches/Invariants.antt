use Rattle.std.proofs.Common.{◌≡◌, drop}
use Rattle.fault_list.specs.Faults.{earlier, least}
use Rattle.name_rules.specs.Unknown.{branches_unknown}
use Rattle.name_rules.proofs.unknown.references.note_unknown_branches.Given as goal

-- What is left decides.
abbrev pub invariant-loop-branch : goal.invariant-loop-branch
invariant-loop-branch g l =
    earlier l.first (least (branches_unknown (g.L.Library.known l.library) l.params (drop l.branch-index l.branches)))
    ≡ earlier l.initial.first (least (branches_unknown (g.L.Library.known l.library) l.params l.branches))
