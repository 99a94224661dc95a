use Rattle.row_values.specs.Cells as spec
use Rattle.row_values.proofs.FindsLemmas.{refused, no_values, tree_found}
use Rattle.row_values.proofs.table.cell.tree_of.Goals as goal

pub returns-in-Err : goal.returns-in-Err
returns-in-Err c = refused (spec.IsCut c.args.cell.now) (spec.Writes c.args.cell.now) c.in-Err.fault (λ y w. (w.tokens, w.cut)) c.in-Err.ensures

pub returns-in-Err-values_of : goal.returns-in-Err-values_of
returns-in-Err-values_of c = no_values c.args.cell.now c.in-Ok.tokens c.in-Err-values_of.fault c.in-Ok.ensures c.in-Err-values_of.ensures

pub returns : goal.returns
returns c = tree_found c.args.cell.now c.in-Ok.tokens c.in-Ok-values_of.values c.only_one.result c.in-Ok.ensures c.in-Ok-values_of.ensures c.only_one.ensures
