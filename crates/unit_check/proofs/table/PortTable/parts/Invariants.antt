use Rattle.std.proofs.Common.{◌≡◌, ◌++◌, drop, map}
use Rattle.std.specs.List.{flat_map}
use Rattle.unit_check.specs.Held.{IsTable, part_held}
use Rattle.unit_check.specs.Scopes.{part_scope}
use Rattle.unit_check.specs.TypeFaults.{part_faults}
use Rattle.unit_check.proofs.table.PortTable.parts.Given as goal

-- What is left decides, and follows.
abbrev pub invariant-loop-part : goal.invariant-loop-part
invariant-loop-part l =
    IsTable l.names.files l.names.types l.self
    × (flat_map (part_faults l.names.files l.names.types l.params.trees.now) l.parts ≡ flat_map (part_faults l.names.files l.names.types l.params.trees.now) (drop l.part-index l.parts))
    × (map (part_scope l.names.files l.names.types l.params.trees.now) l.parts ≡ map part_held l.made.items ++ map (part_scope l.names.files l.names.types l.params.trees.now) (drop l.part-index l.parts))
