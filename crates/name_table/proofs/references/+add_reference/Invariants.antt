use Rattle.std.proofs.Common.{◌≡◌, ◌++◌, drop, map}
use Rattle.std.specs.List.{flat_map}
use Rattle.std.specs.Prelude.{is_some}
use Rattle.design_lexer.specs.declared.tree.ArgTree.{out-ArgTree}
use Rattle.name_index.specs.Names.{number_of}
use Rattle.name_rules.specs.References.{reference_names}
use Rattle.name_table.specs.References.{file_named}
use Rattle.name_table.proofs.references.+add_reference.Given as goal

-- What is left follows.
abbrev pub invariant-loop-argument : goal.invariant-loop-argument
invariant-loop-argument l =
    l.pairs.items ++ map (λ j. (l.number, j)) (flat_map (file_named (number_of l.designs) (λ name. is_some (number_of l.hidden name))) (flat_map (λ a. reference_names (out-ArgTree a).reference) (drop l.argument-index l.argument-items)))
    ≡ l.fn.pairs.items ++ map (λ j. (l.number, j)) (flat_map (file_named (number_of l.designs) (λ name. is_some (number_of l.hidden name))) (reference_names l.reference))
