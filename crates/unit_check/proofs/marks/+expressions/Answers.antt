use Rattle.std.proofs.Common.{◌∙◌}
use Rattle.name_index.specs.Names.{number_of}
use Rattle.order_core.specs.ResultLaws.{on_ok}
use Rattle.unit_check.specs.Connection.{places_in}
use Rattle.unit_check.proofs.MarkLemmas.{marked_both, marked_next, of-Tuple, of_operands}
use Rattle.unit_check.proofs.marks.+expressions.Goals as goal

pub mark_expr-returns-in-Tuple-clause-marked : goal.mark_expr-returns-in-Tuple-clause-marked
mark_expr-returns-in-Tuple-clause-marked t c = rw (c.in-Tuple.is, of-Tuple, ← c.items.ensures) c.mark_exprs.ensures.marked

pub mark_expr-returns-in_ok-mark_expr-in-Sum-clause-marked : goal.mark_expr-returns-in_ok-mark_expr-in-Sum-clause-marked
mark_expr-returns-in_ok-mark_expr-in-Sum-clause-marked t c =
    let find = number_of c.args.parts.now in
    let left = c.in-Sum.left in
    let right = c.in-Sum.right in
    let of_left = rw c.get.ensures at c.in_ok-mark_expr-in-Sum.ensures.marked in
    let of_right = rw c.get-in-Sum.ensures at c.mark_expr-in-Sum.ensures.marked in
    on_ok _ _ c.mark_expr-in-Sum.result
    (marked_both find c.args.marks.now.items c.mark_expr.new.marks.items c.mark_expr-in-Sum.new.marks.items (places_in left) (places_in right) (places_in c.args.tree.now) (of_operands c.args.tree.now left right c.in-Sum.is) of_left) of_right

pub mark_exprs-loop-tree-preserved : goal.mark_exprs-loop-tree-preserved
mark_exprs-loop-tree-preserved t c = (
  c.mark_expr.ensures.size ∙ c.loop-tree.invariant.0,
  marked_next (number_of c.args.parts.now) places_in c.args.trees.now c.loop-tree.tree-index c.tree-item.result c.loop-tree-test.true c.tree-item.is c.loop-tree.marks.items c.mark_expr.new.marks.items _ c.loop-tree.invariant.1 c.in_ok-mark_expr.ensures.marked,
)
