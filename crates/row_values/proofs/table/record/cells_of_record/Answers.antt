use Rattle.std.proofs.Common.{◌+◌, sym, subst}
use Rattle.csv.specs.Records.{fields_of}
use Rattle.row_values.proofs.RecordLemmas.{CellsLeft, cells_start, cells_next, cells_refused, cells_missing, cells_done}
use Rattle.row_values.proofs.table.record.cells_of_record.Goals as goal

pub loop-at-init : goal.loop-at-init
loop-at-init c = subst (CellsLeft c.args.types.now c.args.rounding c.args.ports.now (fields_of c.args.cells.now) c.args.from 0) (sym c.new-values.ensures.items) (cells_start c.args.types.now c.args.rounding c.args.ports.now (fields_of c.args.cells.now) c.args.from)

pub returns-in-None : goal.returns-in-None
returns-in-None c = cells_missing c.args.types.now c.args.rounding c.args.ports.now (fields_of c.args.cells.now) c.args.from c.loop-at.at c.loop-at.values.items c.index-ports-at.result c.loop-at.invariant c.loop-at-test.true c.index-ports-at.is c.in-None.ensures.value

pub returns-in-Err : goal.returns-in-Err
returns-in-Err c = cells_refused c.args.types.now c.args.rounding c.args.ports.now (fields_of c.args.cells.now) c.args.from c.loop-at.at c.loop-at.values.items c.index-ports-at.result c.loop-at.invariant c.loop-at-test.true c.index-ports-at.is
    c.in-Some.cell.now c.in-Some.ensures.value c.in-Err.fault c.in-Err.ensures

pub loop-at-preserved : goal.loop-at-preserved
loop-at-preserved c =
    subst (CellsLeft c.args.types.now c.args.rounding c.args.ports.now (fields_of c.args.cells.now) c.args.from (c.loop-at.at + 1)) (sym c.in_ok-push.ensures.items)
    (cells_next c.args.types.now c.args.rounding c.args.ports.now (fields_of c.args.cells.now) c.args.from c.loop-at.at c.loop-at.values.items c.index-ports-at.result c.loop-at.invariant c.loop-at-test.true c.index-ports-at.is
    c.in-Some.cell.now c.in-Some.ensures.value c.in-Ok.value c.in-Ok.ensures)

pub returns : goal.returns
returns c =
    let T = c.args.types.now in
    let done = cells_done T c.args.rounding c.args.ports.now (fields_of c.args.cells.now) c.args.from c.loop-at.at c.loop-at.values.items c.loop-at.invariant c.loop-at-test.false in
    rw (c.in_ok-row.ensures, c.of.ensures, c.shrink_to_fit.ensures.items) done
