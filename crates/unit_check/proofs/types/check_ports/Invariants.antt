use Rattle.std.proofs.Common.{◌≡◌, drop}
use Rattle.std.specs.List.{flat_map}
use Rattle.unit_check.specs.Held.{IsTable}
use Rattle.unit_check.specs.TypeFaults.{file_port_faults}
use Rattle.unit_check.proofs.types.check_ports.Given as goal

-- What is left decides.
abbrev pub invariant-loop-number : goal.invariant-loop-number
invariant-loop-number l =
    IsTable l.names.files l.names.types l.table
    × (flat_map (file_port_faults l.names.types) l.names.files ≡ flat_map (file_port_faults l.names.types) (drop l.number l.names.files))
