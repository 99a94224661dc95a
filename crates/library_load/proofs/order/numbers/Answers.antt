use Rattle.std.proofs.Common.{◌≡◌, ◌∙◌, ◌+◌, ◌∷◌, [], ◌++◌, ap, arith, suc, ℕ, List}
use Rattle.library_load.proofs.OrderLemmas.{all_below}
use Rattle.library_load.proofs.order.numbers.Goals as goal

pub loop-number-preserved : goal.loop-number-preserved
loop-number-preserved c =
    let next : suc c.loop-number.number ≡ c.loop-number.number + 1 = omega arith in
    c.in_ok-push.ensures.items ∙ ap (λ (xs : List ℕ). xs ++ c.loop-number.number ∷ []) c.loop-number.invariant ∙ ap all_below next

pub returns : goal.returns
returns c =
    let end = c.loop-number.auto.number-end in let last = c.loop-number-test.false in
    let all : c.loop-number.number ≡ c.args.count = omega arith in
    c.loop-number.invariant ∙ ap all_below all
