use Rattle.std.specs.List.{flat_map}
use Rattle.name_table.proofs.StemLemmas.{Left}
use Rattle.name_table.specs.Library.{ArePosets}
use Rattle.name_table.specs.NameFaults.{file_faults}
use Rattle.name_table.specs.Stems.{known_by}
use Rattle.name_table.proofs.posets.posets_of.Given as goal

-- What is left decides, and the posets are those of the files before.
abbrev pub invariant-loop-file : goal.invariant-loop-file
invariant-loop-file l = Left (λ before rest. flat_map (file_faults (known_by l.library)) rest) ArePosets l.files l.file-index l.posets.items
