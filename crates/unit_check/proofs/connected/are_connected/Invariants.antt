use Rattle.std.proofs.Common.{◌≡◌, drop}
use Rattle.std.specs.List.{list_all}
use Rattle.unit_check.specs.Named.{connected_by}
use Rattle.unit_check.proofs.connected.are_connected.Given as goal

-- What is left decides.
abbrev pub invariant-loop-port : goal.invariant-loop-port
invariant-loop-port l = list_all (connected_by l.named l.part) l.ports ≡ list_all (connected_by l.named l.part) (drop l.port-index l.ports)
