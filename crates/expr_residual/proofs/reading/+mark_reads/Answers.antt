use Rattle.std.proofs.Common.{◌<◌, length, arith}
use Rattle.expr_residual.proofs.MarkLemmas.{marked_twice, reads_both}
use Rattle.expr_residual.specs.MovedLaws.{owns-Tuple}
use Rattle.expr_residual.proofs.reading.+mark_reads.Goals as goal

pub mark_reads-returns-in-Tuple-clause-marks : goal.mark_reads-returns-in-Tuple-clause-marks
mark_reads-returns-in-Tuple-clause-marks t c = λ k h. rw (c.in-Tuple.is, owns-Tuple, ← c.items.ensures) (c.mark_each.ensures.marks k h)

pub mark_reads-returns-in-Sum-clause-marks : goal.mark_reads-returns-in-Sum-clause-marks
mark_reads-returns-in-Sum-clause-marks t c = λ k h.
    let within : k < length c.mark_reads-in-Sum.new.marks = omega (arith, c.mark_reads-in-Sum.ensures.size) in
    rw (reads_both _ _ _ k c.in-Sum.is, ← c.get-in-Sum.ensures, ← c.get-in-Sum-2.ensures)
    (marked_twice _ _ _ _ _ (c.mark_reads-in-Sum.ensures.marks k h) (c.mark_reads-in-Sum-2.ensures.marks k within))
