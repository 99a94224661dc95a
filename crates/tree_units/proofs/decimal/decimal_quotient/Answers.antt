use Rattle.std.proofs.Common.{◌∙◌, sym, arith}
use Rattle.tree_units.proofs.Decimals.{no_divisor, zero_over, too_great_over, too_great_under, whole_quotient}
use Rattle.tree_units.proofs.decimal.decimal_quotient.Goals as goal

pub returns-then-under-eq0 : goal.returns-then-under-eq0
returns-then-under-eq0 c = sym (no_divisor _ c.args.under.digits c.args.over.decimals c.if-under-eq0.true)

pub returns-then-over-eq0 : goal.returns-then-over-eq0
returns-then-over-eq0 c = c.new.ensures ∙ zero_over c.args.over.digits c.args.under.digits c.args.under.decimals c.args.over.decimals c.if-over-eq0.true (omega arith)

pub returns-in_default : goal.returns-in_default
returns-in_default c =
    let known = c.in_default.ensures in
    sym (too_great_over c.args.over.digits c.args.under.digits c.args.under.decimals c.args.over.decimals c.min-shared.result c.min-shared.ensures (omega arith)
    (omega arith) known.0 known.1)

pub returns-in_default-times_tens : goal.returns-in_default-times_tens
returns-in_default-times_tens c =
    let known = c.in_default-times_tens.ensures in
    sym (too_great_under c.args.over.digits c.args.under.digits c.args.under.decimals c.args.over.decimals c.min-shared.result c.min-shared.ensures (omega arith)
    (omega arith) (omega arith) known.0 known.1)

pub returns : goal.returns
returns c =
    c.of_products.ensures ∙ whole_quotient c.args.over.digits c.args.under.digits c.args.under.decimals c.args.over.decimals c.min-shared.result c.min-shared.ensures (omega arith)
    _ _ c.in-Some.ensures c.in-Some-times_tens.ensures
