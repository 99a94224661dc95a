use Rattle.std.proofs.Common.{◌∙◌, ap, sym, arith}
use Rattle.order_core.specs.CountLaws.{count_at_most, count_more, one_if}
use Rattle.reachability.specs.Reach.{reach}
use Rattle.reachability.proofs.reach.Reachability.rank.Goals as goal
use Rattle.reachability.proofs.reach.Reachability.rank.Goals.{then-reaches, else-reaches}

pub overflow_add-count : goal.overflow_add-count
overflow_add-count c = omega (arith, count_at_most c.loop-number.number (reach c.args.self.now c.args.a))

pub loop-number-preserved : goal.loop-number-preserved
loop-number-preserved c =
    let more = count_more c.loop-number.number (reach c.args.self.now c.args.a) in
    elim c.if-reaches.branch [
      | then-reaches w ↦ omega (arith, more, ap one_if (sym c.reaches.ensures ∙ w.if-reaches.true))
      | else-reaches w ↦ omega (arith, more, ap one_if (sym c.reaches.ensures ∙ w.if-reaches.false))
    ]
