use Rattle.std.proofs.Common.{◌≡◌, drop}
use Rattle.std.specs.List.{flat_map}
use Rattle.design_lexer.specs.declared.tree.ArgTree.{out-ArgTree}
use Rattle.fault_list.specs.Faults.{earlier, least}
use Rattle.name_rules.specs.Twice.{reference_repeats}
use Rattle.name_rules.proofs.references.+note_twice_arguments.Given as goal

-- What is left decides.
abbrev pub invariant-loop-argument : goal.invariant-loop-argument
invariant-loop-argument l =
    earlier l.first (least (flat_map (λ a. reference_repeats (out-ArgTree a).reference) (drop l.argument-index l.argument-items))) ≡ earlier l.fn.first (least (reference_repeats l.reference))
