use Rattle.name_table.proofs.StemLemmas.{Left}
use Rattle.name_table.specs.Listing.{taken_stems}
use Rattle.name_table.specs.Stems.{AreStems}
use Rattle.name_table.proofs.stems.file_stems.Given as goal

-- What is left decides, and the stems are those of the files before.
abbrev pub invariant-loop-number : goal.invariant-loop-number
invariant-loop-number l = Left taken_stems AreStems l.files l.number l.stems
