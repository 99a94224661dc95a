use Rattle.std.proofs.Common.{[], map, take, drop, true}
use Rattle.fault_list.specs.Faults.{earlier, least}
use Rattle.name_rules.specs.Twice.{repeats}
use Rattle.name_rules.proofs.TwiceLemmas.{IsSoFar, names_in}
use Rattle.name_rules.proofs.twice.note_twice.Given as goal

abbrev pub invariant-loop-item : goal.invariant-loop-item
invariant-loop-item g l =
    IsSoFar (names_in g.T.Named.named (λ x. true) (take l.item-index l.items)) (names_in g.T.Named.named (λ x. true) (drop l.item-index l.items)) l.names l.first
    (earlier l.initial.first (least (repeats [] (map g.T.Named.named l.items))))
