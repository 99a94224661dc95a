use Rattle.std.proofs.Common.{◌≡◌, ◌++◌, take}
use Rattle.value_type.specs.PortKinds.{port_kinds}
use Rattle.term_compile.proofs.kinds.push_port_kinds.Given as goal

-- The types of the ports so far are added.
abbrev pub invariant-loop-port : goal.invariant-loop-port
invariant-loop-port l = l.into.items ≡ l.initial.into.items ++ port_kinds (take l.port-index l.ports)
