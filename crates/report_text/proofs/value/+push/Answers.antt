use Rattle.std.proofs.Common.{append-nil, arith}
use Rattle.std.proofs.lemmas.List.{drop_all}
use Rattle.report_text.proofs.JoinedLemmas.{left_none, one_added}
use Rattle.report_text.proofs.TextLemmas.{next_part, no_parts}
use Rattle.report_text.proofs.value.+push.Goals as goal

pub push_parts-returns-then-at-values : goal.push_parts-returns-then-at-values
push_parts-returns-then-at-values t c = grind (arith, drop_all, no_parts, left_none, append-nil)

pub push_parts-loop-at-preserved : goal.push_parts-loop-at-preserved
push_parts-loop-at-preserved t c =
    let next = next_part c.args.types.now c.loop-at.at c.args.values.now c.index-values-at.result c.if-at-values.false c.index-values-at.is
    c.args.kinds.now c.index-kinds-at.result c.loop-at-test.true c.index-kinds-at.is c.args.units.now c.index-units-at.result c.if-at-units.false c.index-units-at.is in
    one_added c.loop-at.at _ _ _ _ _ _ c.in_ok-push_separator.ensures c.in_ok-push_typed.ensures (rw next at c.loop-at.invariant)
