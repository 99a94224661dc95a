use Rattle.design_model.specs.ExprLaws.{reads-Tuple}
use Rattle.expr_residual.proofs.reading.+reads_part.Goals as goal

pub reads_part-returns-in-Tuple : goal.reads_part-returns-in-Tuple
reads_part-returns-in-Tuple t c = rw (c.in-Tuple.is, reads-Tuple, ← c.items.ensures) c.some_reads_part.ensures
