use Rattle.std.proofs.Common.{◌↔◌, drop}
use Rattle.name_table.specs.Library.{AreSmall}
use Rattle.name_table.proofs.size.are_small.Given as goal

-- What is left decides.
abbrev pub invariant-loop-file : goal.invariant-loop-file
invariant-loop-file l = AreSmall (drop l.file-index l.files) ↔ AreSmall l.files
