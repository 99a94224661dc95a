use Rattle.order_core.specs.MinimalElements.{AreMinimal}
use Rattle.std.proofs.lemmas.Result.{IfOk-weaker}
use Rattle.order_core.proofs.MinimalLaws.{minimal_least}
use Rattle.order_core.proofs.finite.FiniteOrderOrder.least.Goals as goal

pub returns-clause-least : goal.returns-clause-least
returns-clause-least c = IfOk-weaker _ _ _ (λ made h. minimal_least c.args.self.now.table c.args.self.now.is_table made h) c.minimal.ensures

pub returns-clause-rising : goal.returns-clause-rising
returns-clause-rising c = IfOk-weaker _ _ _ (λ made (h : AreMinimal c.args.self.now.table _ made). h.rising) c.minimal.ensures
