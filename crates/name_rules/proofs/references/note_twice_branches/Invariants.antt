use Rattle.std.proofs.Common.{◌≡◌, drop}
use Rattle.fault_list.specs.Faults.{earlier, least}
use Rattle.name_rules.specs.Twice.{branch_repeats}
use Rattle.name_rules.proofs.references.note_twice_branches.Given as goal

-- What is left decides.
abbrev pub invariant-loop-branch : goal.invariant-loop-branch
invariant-loop-branch l = earlier l.first (least (branch_repeats (drop l.branch-index l.branches))) ≡ earlier l.initial.first (least (branch_repeats l.branches))
