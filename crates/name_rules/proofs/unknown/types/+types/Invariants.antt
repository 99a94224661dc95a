use Rattle.std.proofs.Common.{◌≡◌, drop}
use Rattle.std.specs.List.{flat_map}
use Rattle.fault_list.specs.Faults.{earlier, least}
use Rattle.name_rules.specs.Unknown.{type_unknown}
use Rattle.name_rules.proofs.unknown.types.+types.Given as goal

-- What is left decides.
abbrev pub invariant-note_unknown_types-loop-tree : goal.invariant-note_unknown_types-loop-tree
invariant-note_unknown_types-loop-tree g l =
    earlier l.first (least (flat_map (type_unknown (g.L.Library.known l.library)) (drop l.tree-index l.trees)))
    ≡ earlier l.initial.first (least (flat_map (type_unknown (g.L.Library.known l.library)) l.trees))
