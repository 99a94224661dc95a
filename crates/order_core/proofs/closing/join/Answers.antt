use Rattle.std.proofs.Common.{◌∙◌, ◌<◌, sym, length, arith}
use Rattle.std.proofs.lemmas.Bool.{cond-true, cond-false}
use Rattle.order_core.proofs.ClosingSteps.{joined_row, row_joined}
use Rattle.order_core.proofs.closing.join.Goals as goal
use Rattle.order_core.proofs.closing.join.Goals.{then-is_in_word, else-is_in_word}

pub loop-row-preserved : goal.loop-row-preserved
loop-row-preserved c =
    let within : c.loop-row.row-index < length c.loop-row.table = omega arith in
    elim c.if-is_in_word.branch [
      | then-is_in_word w ↦
          w.table-is
          ∙ row_joined (joined_row c.args.table.now c.args.a c.args.b) _ _ _ _ within c.loop-row-test.true c.loop-row.invariant (cond-true _ _ _ (sym c.is_in_word.ensures ∙ w.if-is_in_word.true))
      | else-is_in_word w ↦
          w.table-is
          ∙ row_joined (joined_row c.args.table.now c.args.a c.args.b) _ _ _ _ within c.loop-row-test.true c.loop-row.invariant (cond-false _ _ _ (sym c.is_in_word.ensures ∙ w.if-is_in_word.false))
    ]
