use Rattle.std.proofs.Common.{◌≡◌, ◌++◌, drop, map}
use Rattle.std.specs.Prelude.{is_some}
use Rattle.name_index.specs.Names.{number_of}
use Rattle.name_table.specs.References.{refers}
use Rattle.name_table.proofs.references.add_branches.Given as goal

-- What is left follows.
abbrev pub invariant-loop-branch : goal.invariant-loop-branch
invariant-loop-branch l =
    l.pairs.items ++ map (λ j. (l.number, j)) (refers (number_of l.designs) (λ name. is_some (number_of l.hidden name)) (drop l.branch-index l.branches))
    ≡ l.initial.pairs.items ++ map (λ j. (l.number, j)) (refers (number_of l.designs) (λ name. is_some (number_of l.hidden name)) l.branches)
