use Rattle.expr_lower.proofs.PartLemmas.{part_next}
use Rattle.expr_lower.proofs.expr.+operand.Goals as goal

pub lowered_parts-loop-part-preserved : goal.lowered_parts-loop-part-preserved
lowered_parts-loop-part-preserved g t c =
    part_next c.args.types.now (g.R.Readable.readable c.args.ports.now) c.args.parts.now c.loop-part.part-index c.part-item.result c.loop-part-test.true c.part-item.is
    c.loop-part.lowers.items c.push.new.self.items c.in_ok-read.read c.in_ok-lower.lower c.in_ok-read.ensures.1 c.in_ok-lower.ensures c.in_ok-push.ensures.items c.loop-part.invariant
