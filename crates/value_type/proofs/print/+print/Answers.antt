use Rattle.std.proofs.Common.{sym, ◌∙◌, arith}
use Rattle.value_type.specs.PrintLaws.{value_cmp-Tup, shorter}
use Rattle.value_type.proofs.print.+print.Goals as goal

pub compare_values-returns-then-xs-ys : goal.compare_values-returns-then-xs-ys
compare_values-returns-then-xs-ys t c = sym (c.loop-at.invariant.0 ∙ shorter c.args.xs.now c.args.ys.now c.loop-at.at (omega arith) (omega arith))

pub print_order-returns-in-Tup-b : goal.print_order-returns-in-Tup-b
print_order-returns-in-Tup-b t c =
    rw (c.in-Tup.is, c.in-Tup-b.is) (rw (c.items.ensures, c.items-in-Tup-b.ensures) at c.compare_values.ensures ∙ sym (value_cmp-Tup c.in-Tup.xs c.in-Tup-b.ys))
