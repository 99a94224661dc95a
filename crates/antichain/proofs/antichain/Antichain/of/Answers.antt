use Rattle.std.proofs.Common.{◌≡◌, ◌∙◌, [], ap, sym, IsTrue, subst, List, length, ◌↔◌}
use Rattle.std.proofs.lemmas.Iterator.Adapters.{YieldsList-from_vec}
use Rattle.std.proofs.lemmas.Iterator.Consumers.{YieldsList-end}
use Rattle.std.proofs.lemmas.List.{map-id}
use Rattle.order_core.specs.Members.{IsMember}
use Rattle.antichain.specs.Basis.{IsBasis}
use Rattle.antichain.specs.Minima.{inserted, inserted_all}
use Rattle.antichain.proofs.MinimaLemmas.{inserted_all-snoc, inserted_all-minima}
use Rattle.antichain.proofs.MinimaLaws.{minima_are, minima_exact}
use Rattle.antichain.proofs.antichain.Antichain.of.Goals as goal
use Rattle.order_core.specs.Minimal.{IsMinimal}

pub loop-item-preserved : goal.loop-item-preserved
loop-item-preserved g c = (
  c.in-Ok.ensures.items
      ∙ ap (λ members. inserted (g.O.Order.leq c.args.order.now) members c.in-Some.item) c.loop-item.invariant.0
      ∙ sym (inserted_all-snoc (g.O.Order.leq c.args.order.now) [] c.loop-item.yielded c.in-Some.item),
  c.insert.ensures.members,
  c.insert.ensures.incomparable,
)

pub returns-clause-minima : goal.returns-clause-minima
returns-clause-minima g c =
    let into = c.into_iter-item-iterator.ensures.into_iter_gives in
    let same : c.into_iter-item-iterator.result.rest.items ≡ c.args.items = into.0 ∙ c.into_vec-item-items.ensures in
    let end = YieldsList-end (YieldsList-from_vec {s = c.into_iter-item-iterator.result} c.args.items same (into.1 ∙ c.into_vec-item-items.result.ok.0 ∙ ap length c.into_vec-item-items.ensures)) c.loop-item.yielded c.loop-item.item-iterator c.loop-item.yielded_by c.next.result c.next.new.self c.in-None.is c.next.ensures.steps in
    let all : c.loop-item.yielded ≡ c.args.items = sym (map-id c.loop-item.yielded) ∙ end.0 in
    c.loop-item.invariant.0 ∙ ap (inserted_all (g.O.Order.leq c.args.order.now) []) all
    ∙ inserted_all-minima (g.O.Order.is_value c.args.order.now) (g.O.Order.leq c.args.order.now) (g.met.O.Order.laws c.args.order.now) c.args.items c.requires

pub returns-clause-basis : goal.returns-clause-basis
returns-clause-basis g c =
    subst (λ (made : List g.row.T.Denot). IsBasis (g.O.Order.leq c.args.order.now) (λ y. IsMember y c.args.items) made) (sym (returns-clause-minima g c))
    (minima_are (g.O.Order.is_value c.args.order.now) (g.O.Order.leq c.args.order.now) (g.met.O.Order.laws c.args.order.now) c.args.items c.requires)

pub returns-clause-exact : goal.returns-clause-exact
returns-clause-exact g c =
    λ x. subst (λ (made : List g.row.T.Denot). IsMember x made ↔ IsMinimal (g.O.Order.leq c.args.order.now) (λ y. IsMember y c.args.items) x) (sym (returns-clause-minima g c))
    (minima_exact (g.O.Order.is_value c.args.order.now) (g.O.Order.leq c.args.order.now) (g.met.O.Order.laws c.args.order.now) c.args.items c.requires x)
