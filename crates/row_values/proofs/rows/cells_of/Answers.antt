use Rattle.std.proofs.Common.{rules, ◌<◌, ◌+◌, sym, subst, length}
use Rattle.row_values.proofs.RowLemmas.{CellsLeft, cells_next}
use Rattle.row_values.proofs.rows.cells_of.Goals as goal

pub loop-at-preserved : goal.loop-at-preserved
loop-at-preserved c =
    let inside : c.loop-at.at < length c.args.ports.now = search rules in
    subst (CellsLeft c.args.types.now c.args.rounding c.args.ports.now c.args.trees.now (c.loop-at.at + 1)) (sym c.in_ok-push.ensures.items)
    (cells_next c.args.types.now c.args.rounding c.args.ports.now c.args.trees.now c.loop-at.at c.loop-at.values.items c.index-ports-at.result c.index-trees-at.result c.loop-at.invariant inside c.loop-at-test.true c.index-ports-at.is c.index-trees-at.is c.in-Ok.value c.in-Ok.ensures.1)
