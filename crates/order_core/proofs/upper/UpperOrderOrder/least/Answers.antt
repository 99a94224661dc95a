use Rattle.std.proofs.Common.{◌≡◌, ℕ, List, ◌∷◌, []}
use Rattle.std.proofs.lemmas.Result.{IfOk-weaker}
use Rattle.order_core.proofs.MinimalLaws.{minimal_least_upper}
use Rattle.order_core.proofs.upper.UpperOrderOrder.least.Goals as goal

pub returns-clause-least : goal.returns-clause-least
returns-clause-least c =
    let base = c.args.self.now.base.now in
    let least = c.in_ok-minimal.field-0 in
    IfOk-weaker _ (λ (made : List (List ℕ)). made ≡ least ∷ []) _ (λ made e. rw e (minimal_least_upper base.table base.is_table least c.in_ok-minimal.ensures)) c.only.ensures
