use Rattle.std.proofs.Common.{◌≡◌, drop}
use Rattle.fault_list.specs.Faults.{earlier, least}
use Rattle.name_rules.specs.Unknown.{ports_unknown}
use Rattle.name_rules.proofs.unknown.types.note_unknown_ports.Given as goal

-- What is left decides.
abbrev pub invariant-loop-port : goal.invariant-loop-port
invariant-loop-port g l =
    earlier l.first (least (ports_unknown (g.L.Library.known l.library) (drop l.port-index l.ports)))
    ≡ earlier l.initial.first (least (ports_unknown (g.L.Library.known l.library) l.ports))
