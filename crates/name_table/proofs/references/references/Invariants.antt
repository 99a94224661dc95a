use Rattle.std.proofs.Common.{◌≡◌, ◌++◌, drop}
use Rattle.name_index.specs.Names.{number_of}
use Rattle.name_table.specs.References.{references_from}
use Rattle.name_table.proofs.references.references.Given as goal

-- What is left follows.
abbrev pub invariant-loop-number : goal.invariant-loop-number
invariant-loop-number l = references_from (number_of l.designs) 0 l.files ≡ l.pairs.items ++ references_from (number_of l.designs) l.number (drop l.number l.files)
