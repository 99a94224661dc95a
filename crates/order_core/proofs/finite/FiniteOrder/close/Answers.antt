use Rattle.order_core.proofs.ClosingSteps.{closure_table, closure_cycle}
use Rattle.order_core.proofs.finite.FiniteOrder.close.Goals as goal

pub invariant_of-result : goal.invariant_of-result
invariant_of-result c = record {
  is_table = rw c.of.ensures (closure_table c.args.n c.args.pairs.now _ c.requires.pairs c.in-Ok.ensures c.requires.some c.requires.few (rw c.as_slice.ensures.value at c.in-None.ensures));
}

pub returns-in-Some : goal.returns-in-Some
returns-in-Some c = closure_cycle c.args.n c.args.pairs.now _ c.in-Some.a c.in-Some.b c.in-Ok.ensures (rw c.as_slice.ensures.value at c.in-Some.ensures)
