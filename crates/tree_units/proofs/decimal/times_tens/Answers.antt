use Rattle.std.proofs.Common.{arith}
use Rattle.tree_units.proofs.Decimals.{few_tens_fit, split_tens, too_great_product, too_great_power}
use Rattle.tree_units.proofs.decimal.times_tens.Goals as goal

pub returns-in_err-high : goal.returns-in_err-high
returns-in_err-high c =
    rw c.from_residual.ensures (too_great_power c.args.number c.args.n c.min-low.result c.min-low.ensures c.requires.positive (omega arith) (omega (arith, c.in_err-high.ensures)))

pub returns-in_err-first : goal.returns-in_err-first
returns-in_err-first c =
    let high = c.in_ok-high.ensures.1 in
    let many = rw high at c.in_err-first.ensures in
    rw c.from_residual-in_err-first.ensures (too_great_product c.args.number c.args.n c.min-low.result c.min-low.ensures (omega arith) (omega (arith, many)))

pub pow-requires : goal.pow-requires
pow-requires c = few_tens_fit c.min-low.result (omega arith)

pub returns : goal.returns
returns c =
    let high = c.in_ok-high.ensures.1 in
    let first = c.in_ok-first.ensures.1 in
    let whole = split_tens c.args.number c.args.n c.min-low.result (omega arith) in
    cc
