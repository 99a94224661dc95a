use Rattle.std.proofs.Common.{◌≡◌, arith}
use Rattle.order_core.proofs.ClosingSteps.{closure_none}
use Rattle.order_core.proofs.closing.equalities.Goals as goal

pub returns : goal.returns
returns c =
    let all : c.loop-element.element ≡ c.args.n = omega arith in
    closure_none c.args.n _ (omega arith) (λ k l. c.loop-element.invariant.1 k (omega arith))
