use Rattle.csv.specs.Records.{fields_of}
use Rattle.row_values.proofs.RecordLemmas.{CellsLeft}
use Rattle.row_values.proofs.table.record.cells_of_record.Given as goal

abbrev pub invariant-loop-at : goal.invariant-loop-at
invariant-loop-at l = CellsLeft l.types l.rounding l.ports (fields_of l.cells) l.from l.at l.values.items
