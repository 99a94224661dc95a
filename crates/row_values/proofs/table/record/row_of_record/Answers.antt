use Rattle.csv.specs.Records.{fields_of}
use Rattle.row_values.specs.Cells.{IsName}
use Rattle.row_values.proofs.FindsLemmas.{refused}
use Rattle.row_values.proofs.RecordLemmas.{name_in}
use Rattle.row_values.specs.Tables.{RecordIs}
use Rattle.row_values.proofs.table.record.row_of_record.Goals as goal

pub returns-in-Err : goal.returns-in-Err
returns-in-Err c =
    refused (IsName c.in-Some.cell.now) (RecordIs c.args.types.now c.args.provides.now c.args.requires_.now (fields_of c.args.cells.now)) c.in-Err.fault
    (λ row h. (row.name, name_in c.args.types.now c.args.provides.now c.args.requires_.now (fields_of c.args.cells.now) c.in-Some.cell.now c.in-Some.ensures.value row h)) c.in-Err.ensures
