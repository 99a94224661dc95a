use Rattle.std.proofs.Common.{◌≡◌, take}
use Rattle.value_type.specs.PortKinds.{port_kinds}
use Rattle.value_type.proofs.port.kinds_of.Given as goal

-- The types of the ports so far are copied.
abbrev pub invariant-loop-port : goal.invariant-loop-port
invariant-loop-port l = l.kinds.items ≡ port_kinds (take l.port-index l.ports)
