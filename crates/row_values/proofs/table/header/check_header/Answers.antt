use Rattle.std.proofs.Common.{drop}
use Rattle.std.specs.Prelude.{codes}
use Rattle.csv.specs.Records.{fields_of}
use Rattle.row_values.proofs.FindsLemmas.{refused}
use Rattle.row_values.proofs.RecordLemmas.{header_found, header_name}
use Rattle.row_values.specs.Cells.{IsName}
use Rattle.row_values.specs.Tables.{AreNames, HeaderIs}
use Rattle.row_values.proofs.table.header.check_header.Goals as goal

pub returns-in-Err : goal.returns-in-Err
returns-in-Err c =
    let cells = fields_of c.args.cells.now in
    let cell = c.in-Some.cell.now in
    refused {A = Unit {0}} {B = Unit {0}} (λ _. IsName cell (codes "name")) (λ _. HeaderIs c.args.provides.now c.args.requires_.now cells) c.in-Err.fault
    (λ x h. (tt, header_name c.args.provides.now c.args.requires_.now cells cell c.in-Some.ensures.value h)) c.in-Err.ensures

pub returns-in-Err-check_names : goal.returns-in-Err-check_names
returns-in-Err-check_names c =
    let cells = fields_of c.args.cells.now in
    refused {A = Unit {0}} {B = Unit {0}} (λ _. AreNames c.args.provides.now (drop 1 cells)) (λ _. HeaderIs c.args.provides.now c.args.requires_.now cells) c.in-Err-check_names.fault
    (λ x h. (tt, h.provided)) c.in-Err-check_names.ensures

pub returns : goal.returns
returns c =
    header_found c.args.provides.now c.args.requires_.now (fields_of c.args.cells.now) c.in-Some.cell.now c.in-Some.ensures.value c.in-Ok.ensures c.in-Ok-check_names.ensures c.check_names-2.result c.check_names-2.ensures
