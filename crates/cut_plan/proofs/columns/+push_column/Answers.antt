use Rattle.std.proofs.Common.{◌≡◌, true, false, map, drop, ◌+◌, ◌∙◌, rules}
use Rattle.design_model.specs.Heights.{survey}
use Rattle.cut_plan.proofs.ColumnLaws.{choice_rows, column_more, column_none, rows_step}
use Rattle.cut_plan.proofs.columns.+push_column.Goals as goal

pub push_column-returns-in-Choice : goal.push_column-returns-in-Choice
push_column-returns-in-Choice t c = rw c.in-Choice.is (simp choice_rows (rw c.items-in-Choice.ensures at c.push_columns.ensures))

pub push_columns-returns-then-not-branch : goal.push_columns-returns-then-not-branch
push_columns-returns-then-not-branch t c = λ s.
    let unknown : c.in_ok-push_column.field-0 ≡ false = search rules in
    let said = rw unknown at (c.in_ok-push_column.ensures s) in
    c.loop-branch.invariant s ∙ rw (rows_step s c.args.branches.now c.loop-branch.branch-index c.branch-item.result c.loop-branch-test.true c.branch-item.is)
    (column_none c.loop-branch.into.items (survey s c.branch-item.result.design).rows (map (λ b. (survey s b.design).rows) (drop (c.loop-branch.branch-index + 1) c.args.branches.now)) c.args.port said)

pub push_columns-loop-branch-preserved : goal.push_columns-loop-branch-preserved
push_columns-loop-branch-preserved t c = λ s.
    let known : c.in_ok-push_column.field-0 ≡ true = search rules in
    let said = rw known at (c.in_ok-push_column.ensures s) in
    c.loop-branch.invariant s ∙ rw (rows_step s c.args.branches.now c.loop-branch.branch-index c.branch-item.result c.loop-branch-test.true c.branch-item.is)
    (column_more c.loop-branch.into.items c.push_column.new.into.items (survey s c.branch-item.result.design).rows (map (λ b. (survey s b.design).rows) (drop (c.loop-branch.branch-index + 1) c.args.branches.now)) c.args.port said)
