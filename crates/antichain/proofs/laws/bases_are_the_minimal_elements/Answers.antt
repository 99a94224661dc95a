use Rattle.std.proofs.Common.{IsTrue}
use Rattle.antichain.specs.BasisLaws.{minimal_member, member_of_minimal}
use Rattle.antichain.proofs.laws.bases_are_the_minimal_elements.Goals as goal

pub returns : goal.returns
returns g c = λ test xs values basis x.
    let o = c.args.order.now in (
      minimal_member (g.O.Order.is_value o) (g.O.Order.leq o) (g.met.O.Order.laws o) (λ y. IsTrue (test y)) xs values basis x,
      member_of_minimal (g.O.Order.is_value o) (g.O.Order.leq o) (g.met.O.Order.laws o) (λ y. IsTrue (test y)) xs values basis x,
    )
