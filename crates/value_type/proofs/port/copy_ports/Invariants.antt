use Rattle.std.proofs.Common.{◌≡◌, take}
use Rattle.value_type.proofs.port.copy_ports.Given as goal

-- The ports so far are copied.
abbrev pub invariant-loop-port : goal.invariant-loop-port
invariant-loop-port l = l.made.items ≡ take l.port-index l.ports
