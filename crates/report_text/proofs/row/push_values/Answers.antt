use Rattle.report_text.proofs.JoinedLemmas.{one_added}
use Rattle.report_text.proofs.TextLemmas.{next_value}
use Rattle.report_text.proofs.row.push_values.Goals as goal

pub loop-at-preserved : goal.loop-at-preserved
loop-at-preserved c =
    let next = next_value c.args.types.now c.loop-at.at c.args.values.now c.index-values-at.result c.if-at-values.false c.index-values-at.is
    c.args.ports.now c.index-ports-at.result c.loop-at-test.true c.index-ports-at.is in
    one_added c.loop-at.at _ _ _ _ _ _ c.in_ok-push_separator.ensures c.in_ok-push_value.ensures (rw next at c.loop-at.invariant)
