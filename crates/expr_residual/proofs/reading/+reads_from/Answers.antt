use Rattle.expr_residual.specs.MovedLaws.{owns-Tuple}
use Rattle.expr_residual.proofs.reading.+reads_from.Goals as goal

pub reads_from-returns-in-Tuple : goal.reads_from-returns-in-Tuple
reads_from-returns-in-Tuple t c = rw (c.in-Tuple.is, owns-Tuple, ← c.items.ensures) c.some_reads_from.ensures
