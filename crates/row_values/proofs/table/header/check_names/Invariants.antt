use Rattle.std.proofs.Common.{◌+◌, drop}
use Rattle.csv.specs.Records.{fields_of}
use Rattle.row_values.specs.Tables.{AreNames}
use Rattle.row_values.proofs.table.header.check_names.Given as goal

-- What is left decides.
abbrev pub invariant-loop-at : goal.invariant-loop-at
invariant-loop-at l =
    (AreNames (drop l.at l.ports) (drop (l.from + l.at) (fields_of l.cells)) → AreNames l.ports (drop l.from (fields_of l.cells)))
    × (AreNames l.ports (drop l.from (fields_of l.cells)) → AreNames (drop l.at l.ports) (drop (l.from + l.at) (fields_of l.cells)))
