use Rattle.std.proofs.Common.{◌≡◌, ◌||◌, drop}
use Rattle.std.specs.List.{flat_map}
use Rattle.std.specs.Prelude.{is_some}
use Rattle.design_lexer.specs.declared.tree.ArgTree.{out-ArgTree}
use Rattle.fault_list.specs.Faults.{earlier, least}
use Rattle.name_index.specs.Names.{number_of}
use Rattle.name_rules.specs.References.{reference_names}
use Rattle.name_rules.specs.Unknown.{unknown_names}
use Rattle.name_rules.proofs.unknown.references.+note_unknown_reference.Given as goal

-- What is left decides.
abbrev pub invariant-loop-argument : goal.invariant-loop-argument
invariant-loop-argument g l =
    earlier l.first (least (flat_map (λ a. unknown_names (λ name. is_some (number_of l.params name) || (g.L.Library.known l.library).design name) (reference_names (out-ArgTree a).reference)) (drop l.argument-index l.argument-items)))
    ≡ earlier l.fn.first (least (unknown_names (λ name. is_some (number_of l.params name) || (g.L.Library.known l.library).design name) (reference_names l.reference)))
