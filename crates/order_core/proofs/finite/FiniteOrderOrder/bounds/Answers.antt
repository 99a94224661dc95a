use Rattle.order_core.specs.MinimalElements.{AreMinimal}
use Rattle.std.proofs.lemmas.Result.{IfOk-weaker}
use Rattle.order_core.proofs.MinimalLaws.{minimal_bounds}
use Rattle.order_core.proofs.finite.FiniteOrderOrder.bounds.Goals as goal

pub returns-clause-bounds : goal.returns-clause-bounds
returns-clause-bounds c =
    IfOk-weaker _ _ _ (λ made h. minimal_bounds c.args.self.now.table c.args.self.now.is_table made c.args.a.now c.args.b.now (rw (c.row.ensures, c.row-2.ensures) at h)) c.minimal.ensures

pub returns-clause-rising : goal.returns-clause-rising
returns-clause-rising c = IfOk-weaker _ _ _ (λ made (h : AreMinimal c.args.self.now.table _ made). h.rising) c.minimal.ensures
