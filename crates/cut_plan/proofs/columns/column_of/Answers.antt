use Rattle.std.proofs.Common.{◌≡◌, true, false, sym, rules}
use Rattle.cut_plan.proofs.ColumnLaws.{after_nothing}
use Rattle.cut_plan.proofs.columns.column_of.Goals as goal

pub returns-then-branch : goal.returns-then-branch
returns-then-branch c = λ t.
    let known : c.in_ok-push_column.field-0 ≡ true = search rules in
    rw c.of.ensures (sym (rw (known, c.new-values.ensures.items, after_nothing) at (c.in_ok-push_column.ensures t)))

pub returns-else-branch : goal.returns-else-branch
returns-else-branch c = λ t.
    let unknown : c.in_ok-push_column.field-0 ≡ false = search rules in
    sym (rw (unknown, c.new-values.ensures.items, after_nothing) at (c.in_ok-push_column.ensures t))
