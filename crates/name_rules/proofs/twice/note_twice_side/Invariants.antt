use Rattle.std.proofs.Common.{[], take, drop}
use Rattle.fault_list.specs.Faults.{earlier, least}
use Rattle.name_rules.specs.Twice.{port_names, repeats}
use Rattle.name_rules.proofs.TwiceLemmas.{IsSoFar}
use Rattle.name_rules.proofs.twice.note_twice_side.Given as goal

abbrev pub invariant-loop-port : goal.invariant-loop-port
invariant-loop-port l =
    IsSoFar (port_names l.side (take l.port-index l.ports)) (port_names l.side (drop l.port-index l.ports)) l.names l.first
    (earlier l.initial.first (least (repeats [] (port_names l.side l.ports))))
