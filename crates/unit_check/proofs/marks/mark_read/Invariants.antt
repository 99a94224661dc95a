use Rattle.std.proofs.Common.{◌≡◌, drop, length}
use Rattle.std.specs.List.{flat_map}
use Rattle.name_index.specs.Names.{number_of}
use Rattle.unit_check.specs.Connection.{read}
use Rattle.unit_check.specs.Marks.{all_marked}
use Rattle.unit_check.proofs.marks.mark_read.Given as goal

-- What is left follows.
abbrev pub invariant-loop-rule : goal.invariant-loop-rule
invariant-loop-rule l =
    (length l.marks.items ≡ length l.initial.marks.items)
    × (all_marked (number_of l.parts) l.marks.items (flat_map read (drop l.rule-index l.rules)) ≡ all_marked (number_of l.parts) l.initial.marks.items (flat_map read l.rules))
