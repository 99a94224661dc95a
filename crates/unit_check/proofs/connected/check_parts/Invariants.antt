use Rattle.std.proofs.Common.{◌≡◌, not, drop}
use Rattle.std.specs.List.{flat_map, list_all}
use Rattle.fault_list.specs.Faults.{fault_if}
use Rattle.unit_check.specs.Connection.{unconnected}
use Rattle.unit_check.specs.Declaring.{part_ports}
use Rattle.unit_check.specs.Named.{connected_by}
use Rattle.unit_check.proofs.connected.check_parts.Given as goal

-- What is left decides.
abbrev pub invariant-loop-part : goal.invariant-loop-part
invariant-loop-part l =
    flat_map (λ b. fault_if (not (list_all (connected_by l.named b.name.name) (part_ports l.names.files l.params.trees.now b))) (unconnected b.name)) l.parts
    ≡ flat_map (λ b. fault_if (not (list_all (connected_by l.named b.name.name) (part_ports l.names.files l.params.trees.now b))) (unconnected b.name)) (drop l.part-index l.parts)
