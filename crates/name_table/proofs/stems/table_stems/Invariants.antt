use Rattle.name_table.proofs.StemLemmas.{Left}
use Rattle.name_table.specs.Listing.{taken_tables}
use Rattle.name_table.specs.Stems.{AreTableStems}
use Rattle.name_table.proofs.stems.table_stems.Given as goal

-- What is left decides, and the stems are those of the tables before.
abbrev pub invariant-loop-number : goal.invariant-loop-number
invariant-loop-number l = Left taken_tables AreTableStems l.tables l.number l.stems
