use Rattle.std.proofs.Common.{◌≡◌}
use Rattle.order_core.specs.Members.{IsMember}
use Rattle.antichain.specs.Basis.{IsBasis, IsRaise}
use Rattle.antichain.specs.Covers.{IsCover}
use Rattle.antichain.specs.CoverLaws.{cover_basis, cover_values}
use Rattle.order_core.specs.ResultLaws.{if_ok}
use Rattle.antichain.proofs.antichain.Antichain.raise.Goals as goal

pub of-requires-2 : goal.of-requires-2
of-requires-2 g c = rw c.of.ensures
    (cover_values (g.O.Order.leq c.args.order.now) (g.O.Order.is_value c.args.order.now) (g.met.O.Order.laws c.args.order.now) _ (λ t r. r.value) _ c.in_ok-found.ensures)

pub returns-clause-basis : goal.returns-clause-basis
returns-clause-basis g c =
    let same : c.deref.result.now ≡ c.args.self.now = cc in
    let found : IsCover (g.O.Order.leq c.args.order.now) (IsRaise (g.O.Order.is_value c.args.order.now) (g.O.Order.leq c.args.order.now) c.args.x.now c.args.self.now) c.of.result = rw (← same, c.of.ensures) c.in_ok-found.ensures in
    if_ok (IsBasis (g.O.Order.leq c.args.order.now) (λ y. IsMember y c.of.result)) _ c.of-2.result
    (λ made m. cover_basis (g.O.Order.leq c.args.order.now) (g.O.Order.is_value c.args.order.now) (g.met.O.Order.laws c.args.order.now) _ (λ t r. r.value) c.of.result found made m)
    c.of-2.ensures.basis
