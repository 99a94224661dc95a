use Rattle.std.proofs.Common.{◌≡◌, ℕ, List, ◌∷◌, []}
use Rattle.std.proofs.lemmas.Result.{IfOk-weaker}
use Rattle.order_core.proofs.MinimalLaws.{minimal_bounds_upper}
use Rattle.order_core.proofs.upper.UpperOrderOrder.bounds.Goals as goal

pub returns-clause-bounds : goal.returns-clause-bounds
returns-clause-bounds c =
    let base = c.args.self.now.base.now in
    let bound = c.in_ok-minimal.field-0 in
    let a_set = rw c.items.ensures at c.upper_set.ensures in
    let b_set = rw c.items-2.ensures at c.upper_set-2.ensures in
    IfOk-weaker _ (λ (made : List (List ℕ)). made ≡ bound ∷ []) _
    (λ made e. rw e (minimal_bounds_upper base.table base.is_table bound c.args.a.now c.args.b.now c.upper_set.result c.upper_set-2.result a_set b_set c.in_ok-minimal.ensures))
    c.only.ensures
