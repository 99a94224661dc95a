use Rattle.std.proofs.Common.{◌≡◌, drop}
use Rattle.fault_list.specs.Faults.{earlier, least}
use Rattle.name_rules.specs.Twice.{shared}
use Rattle.name_rules.proofs.references.note_shared.Given as goal

-- What is left decides.
abbrev pub invariant-loop-part : goal.invariant-loop-part
invariant-loop-part l = earlier l.first (least (shared l.ports (drop l.part-index l.parts))) ≡ earlier l.initial.first (least (shared l.ports l.parts))
