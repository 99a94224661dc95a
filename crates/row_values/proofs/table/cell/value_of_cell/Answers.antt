use Rattle.row_values.specs.Cells as spec
use Rattle.row_values.proofs.FindsLemmas.{refused}
use Rattle.row_values.proofs.CellLemmas.{value_found}
use Rattle.row_values.proofs.table.cell.value_of_cell.Goals as goal

pub returns-in-Err : goal.returns-in-Err
returns-in-Err c = refused (spec.Writes c.args.cell.now) (spec.CellIs c.args.types.now c.args.rounding c.args.kind.now c.args.cell.now) c.in-Err.fault (λ y w. (w.tree, w.writes)) c.in-Err.ensures

pub returns : goal.returns
returns c = value_found c.args.types.now c.args.rounding c.args.kind.now c.args.cell.now c.in-Ok.tree c.in-Ok.ensures c.value_of_tree.result c.value_of_tree.ensures
