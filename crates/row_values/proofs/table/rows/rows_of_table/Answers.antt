use Rattle.row_values.proofs.TableLemmas.{finished}
use Rattle.row_values.proofs.table.rows.rows_of_table.Goals as goal

pub returns-in-Ok : goal.returns-in-Ok
returns-in-Ok c = finished c.args.columns.now.types.now c.args.columns.now.provides.now c.args.columns.now.requires_.now c.args.bytes.now c.read_table.new.kept c.rows_kept.result c.in-Ok.ensures c.rows_kept.ensures
