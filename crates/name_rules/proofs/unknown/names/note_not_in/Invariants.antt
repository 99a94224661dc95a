use Rattle.std.proofs.Common.{◌≡◌, drop}
use Rattle.std.specs.Prelude.{is_some}
use Rattle.fault_list.specs.Faults.{earlier, least}
use Rattle.name_index.specs.Names.{number_of}
use Rattle.name_rules.specs.Unknown.{unknown_names}
use Rattle.name_rules.proofs.unknown.names.note_not_in.Given as goal

-- What is left decides.
abbrev pub invariant-loop-name : goal.invariant-loop-name
invariant-loop-name l =
    earlier l.first (least (unknown_names (λ name. is_some (number_of l.index name)) (drop l.name-index l.names)))
    ≡ earlier l.initial.first (least (unknown_names (λ name. is_some (number_of l.index name)) l.names))
