use Rattle.std.proofs.lemmas.Result.{IfOk-weaker}
use Rattle.order_core.proofs.MinimalSteps.{minimal_left}
use Rattle.order_core.proofs.minimal.minimal_elements.Goals as goal

pub returns : goal.returns
returns c = IfOk-weaker _ _ _ (λ made e. minimal_left c.args.table.now c.args.word c.covered.result made c.requires c.covered.type_inv c.covered.ensures e) c.members_below.ensures
