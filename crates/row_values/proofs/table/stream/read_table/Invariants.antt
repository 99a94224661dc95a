use Rattle.std.proofs.Common.{◌≡◌, ◌<◌, ℕ, List, Some}
use Rattle.csv.specs.Reading.{Reached, Ready, default_config, source_of, strip_bom}
use Rattle.csv.specs.declared.parser.State.TheVariants as st
use Rattle.csv.specs.declared.reader.Trim.TheVariants as trim
use Rattle.row_values.specs.Reading.{SoFar}
use Rattle.row_values.specs.Tables.{Record}
use Rattle.row_values.proofs.table.stream.read_table.Given as goal

abbrev pub invariant-loop-cells : goal.invariant-loop-cells
invariant-loop-cells l = (l.cells-iterator.rdr.trim ≡ trim.None) × Ready l.cells-iterator.rdr × (0 < l.cells-iterator.left) × (l.cells-iterator.rdr.config ≡ default_config)
    × (y : List ℕ) × (source_of (λ s. Some s.now) l.cells-iterator.rdr ≡ Some y)
    × (records : List Record) × Reached default_config st.StartRecord (strip_bom l.bytes) records l.cells-iterator.rdr.state y
    × SoFar l.columns.types.now l.columns.provides.now l.columns.requires_.now records l.kept
