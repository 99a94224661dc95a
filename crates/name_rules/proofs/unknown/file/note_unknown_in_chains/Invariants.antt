use Rattle.std.proofs.Common.{◌≡◌, drop}
use Rattle.std.specs.List.{flat_map}
use Rattle.fault_list.specs.Faults.{earlier, least}
use Rattle.name_rules.specs.Twice.{is_listed}
use Rattle.name_rules.specs.Unknown.{unknown_names}
use Rattle.name_rules.proofs.unknown.file.note_unknown_in_chains.Given as goal

-- What is left decides.
abbrev pub invariant-loop-chain : goal.invariant-loop-chain
invariant-loop-chain l =
    earlier l.first (least (flat_map (unknown_names (is_listed l.poset.elements)) (drop l.chain-index l.chain-items)))
    ≡ earlier l.fn.first (least (flat_map (unknown_names (is_listed l.poset.elements)) l.poset.chains))
