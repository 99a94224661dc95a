use Rattle.std.proofs.Common.{◌≡◌, drop, length}
use Rattle.std.specs.List.{flat_map}
use Rattle.name_index.specs.Names.{number_of}
use Rattle.unit_check.specs.Connection.{places_in}
use Rattle.unit_check.specs.Marks.{all_marked}
use Rattle.unit_check.proofs.marks.+expressions.Given as goal

-- What is left follows.
abbrev pub invariant-mark_exprs-loop-tree : goal.invariant-mark_exprs-loop-tree
invariant-mark_exprs-loop-tree l =
    (length l.marks.items ≡ length l.initial.marks.items)
    × (all_marked (number_of l.parts) l.marks.items (flat_map places_in (drop l.tree-index l.trees)) ≡ all_marked (number_of l.parts) l.initial.marks.items (flat_map places_in l.trees))
