use Rattle.std.proofs.Common.{subst, Err, Some, ℕ, List}
use Rattle.side_ports.specs.Held.{sides_held}
use Rattle.catalogue_read.specs.Catalogues.{AreTabled}
use Rattle.catalogue_read.proofs.FileLemmas.{table_stopped}
use Rattle.row_values.specs.Tables.{AnswersTable}
use Rattle.value_type.specs.declared.port.Port.{Port}
use Rattle.catalogue_read.proofs.rows.table_rows.Goals as goal

pub returns-in-Err : goal.returns-in-Err
returns-in-Err c =
    let types = c.args.types.now in
    let sides = sides_held c.args.ports.now in
    let stop = c.in-Err.stop in
    let provided = subst (λ (ps : List Port). AnswersTable types ps c.items-2.result.now c.items-3.result.now (Err stop)) c.items.ensures c.in-Err.ensures in
    let required = subst (λ (ps : List Port). AnswersTable types sides.provides ps c.items-3.result.now (Err stop)) c.items-2.ensures provided in
    let answer = subst (λ (bytes : List ℕ). AnswersTable types sides.provides sides.requires_ bytes (Err stop)) c.items-3.ensures required in
    table_stopped types sides c.args.table.now (λ rows. AreTabled types sides (Some c.args.table.now) rows) stop c.in_file.result answer c.in_file.ensures
