use Rattle.std.proofs.Common.{◌++◌, ◌∷◌, [], List}
use Rattle.csv.specs.Records.{fields_of}
use Rattle.row_values.proofs.TableLemmas.{with_header}
use Rattle.row_values.specs.Reading.{SoFar}
use Rattle.row_values.specs.Streams.{Reads}
use Rattle.row_values.specs.Tables.{FirstBad, Record}
use Rattle.row_values.proofs.table.rows.read_record.Goals as goal

pub returns-in-Good : goal.returns-in-Good
returns-in-Good c =
    let t = c.args.columns.now.types.now in
    let provides = c.args.columns.now.provides.now in
    let requires_ = c.args.columns.now.requires_.now in
    with_header t provides requires_ c.args.kept.now (λ (records : List Record). Reads {A = Unit {0}} (SoFar t provides requires_) (FirstBad t provides requires_) (records ++ fields_of c.args.cells.now ∷ []) c.read_row.new.kept c.read_row.result)
    c.in-Good.is c.read_row.ensures
