use Rattle.name_rules.specs.Unknown.{expr_unknown}
use Rattle.name_rules.proofs.NoteLemmas.{left_next, noted_both}
use Rattle.name_rules.proofs.UnknownLemmas.{of-Tuple, of_operands}
use Rattle.name_rules.proofs.unknown.expressions.+expressions.Goals as goal

pub note_unknown_in_expr-returns-in-Tuple : goal.note_unknown_in_expr-returns-in-Tuple
note_unknown_in_expr-returns-in-Tuple g t c = rw (c.in-Tuple.is, of-Tuple, ← c.items-in-Tuple.ensures) c.note_unknown_in_parts.ensures

pub note_unknown_in_expr-returns-in-Sum : goal.note_unknown_in_expr-returns-in-Sum
note_unknown_in_expr-returns-in-Sum g t c =
    let known = g.L.Library.known c.args.library.now in
    let left = expr_unknown known c.in-Sum.left in
    let right = expr_unknown known c.in-Sum.right in
    let of_left = rw c.get.ensures at c.note_unknown_in_expr.ensures in
    let of_right = rw c.get-in-Sum.ensures at c.note_unknown_in_expr-in-Sum.ensures in
    rw (of_operands known c.args.expr.now c.in-Sum.left c.in-Sum.right c.in-Sum.is) (noted_both left right c.args.first.now c.note_unknown_in_expr.new.first c.note_unknown_in_expr-in-Sum.new.first of_left of_right)

pub note_unknown_in_parts-loop-part-preserved : goal.note_unknown_in_parts-loop-part-preserved
note_unknown_in_parts-loop-part-preserved g t c =
    left_next (expr_unknown (g.L.Library.known c.args.library.now)) c.args.parts.now c.loop-part.part-index c.part-item.result c.loop-part-test.true c.part-item.is
    c.loop-part.first c.note_unknown_in_expr.new.first _ c.loop-part.invariant c.note_unknown_in_expr.ensures
