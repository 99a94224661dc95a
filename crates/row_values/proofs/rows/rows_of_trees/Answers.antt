use Rattle.std.proofs.Common.{◌+◌, sym, subst}
use Rattle.row_values.proofs.RowLemmas.{RowsLeft, rows_next}
use Rattle.row_values.proofs.rows.rows_of_trees.Goals as goal

pub loop-row-preserved : goal.loop-row-preserved
loop-row-preserved c =
    subst (RowsLeft c.args.types.now c.args.provides.now c.args.requires_.now c.args.rows.now (c.loop-row.row-index + 1)) (sym c.in_ok-push.ensures.items)
    (rows_next c.args.types.now c.args.provides.now c.args.requires_.now c.args.rows.now c.loop-row.row-index c.loop-row.made.items c.row-item.result c.loop-row.invariant c.loop-row-test.true c.row-item.is c.in_ok-next.next c.in_ok-next.ensures.0 c.in_ok-next.ensures.1)
