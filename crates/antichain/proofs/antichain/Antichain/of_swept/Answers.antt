use Rattle.std.proofs.Common.{◌≡◌, ◌∙◌, ◌+◌, ◌-◌, ◌≤◌, ℕ, drop, [], ◌∷◌, ◌++◌, ap, arith, false, length, List, IsTrue, rules, subst, sym, take, true, ◌↔◌}
use Rattle.std.specs.List.{list_any}
use Rattle.std.proofs.lemmas.Iterator.Adapters.{YieldsList-from_vec}
use Rattle.std.proofs.lemmas.Iterator.Consumers.{YieldsList-end, YieldsList-turn}
use Rattle.std.proofs.lemmas.List.{length-append, map-id, take_all}
use Rattle.order_core.specs.Members.{IsMember}
use Rattle.antichain.specs.Basis.{IsBasis}
use Rattle.antichain.specs.Minima.{inserted_all}
use Rattle.antichain.proofs.MinimaLaws.{minima_are, minima_exact}
use Rattle.antichain.proofs.MinimaLemmas.{inserted_all-minima}
use Rattle.antichain.proofs.Ordered.{goes_last, seen, so_far_apart, stays_out}
use Rattle.antichain.proofs.Swept.{all-last, decides_later, decides_new, here, last_decides, last_of, window_is}
use Rattle.antichain.proofs.antichain.Antichain.of_swept.Goals as goal
use Rattle.antichain.proofs.antichain.Antichain.of_swept.Goals.{else-not-some_below-via-then-not-some_below+else-is_err, else-not-some_below-via-else-not-some_below}
use Rattle.order_core.specs.Minimal.{IsMinimal}

pub some_below-requires-clause-items_are_values : goal.some_below-requires-clause-items_are_values
some_below-requires-clause-items_are_values g c =
    let before_last : c.saturating_sub-last.result ≡ length c.deref.result.now - 1 = c.saturating_sub-last.ensures ∙ ap (λ (k : ℕ). k - 1) (c.len.ensures ∙ sym c.deref.ensures.len) in
    let apart = so_far_apart (g.O.Order.is_value c.args.order.now) (g.O.Order.leq c.args.order.now) (g.met.O.Order.laws c.args.order.now) c.args.items c.requires.values (length c.loop-item.yielded) in
    rw (window_is c.deref.result.now c.saturating_sub-last.result before_last, c.deref.ensures.value)
    (all-last (g.O.Order.is_value c.args.order.now) c.loop-item.made.items (rw c.loop-item.invariant.members apart.0))

pub loop-item-preserved : goal.loop-item-preserved
loop-item-preserved g c =
    let leq = g.O.Order.leq c.args.order.now in
    let n = length c.loop-item.yielded in
    let into = c.into_iter-item-iterator.ensures.into_iter_gives in
    let same : c.into_iter-item-iterator.result.rest.items ≡ c.args.items = into.0 ∙ c.into_vec-item-items.ensures in
    let turn = YieldsList-turn (YieldsList-from_vec {s = c.into_iter-item-iterator.result} c.args.items same (into.1 ∙ c.into_vec-item-items.result.ok.0 ∙ ap length c.into_vec-item-items.ensures)) c.loop-item.yielded c.loop-item.item-iterator c.loop-item.yielded_by c.next.result c.next.new.self c.in-Some.item c.in-Some.is c.next.ensures.steps in
    let more : length (c.loop-item.yielded ++ c.in-Some.item ∷ []) ≡ length c.loop-item.yielded + 1 = simp length-append in
    let before_last : c.saturating_sub-last.result ≡ length c.deref.result.now - 1 = c.saturating_sub-last.ensures ∙ ap (λ (k : ℕ). k - 1) (c.len.ensures ∙ sym c.deref.ensures.len) in
    let at_place : IsMember c.in-Some.item (drop (length c.loop-item.yielded) c.args.items) =
    subst (λ (z : g.row.T.Denot). IsMember z (drop (length c.loop-item.yielded) c.args.items)) (sym turn.1) (here c.args.items (length c.loop-item.yielded) c.in-Some.item turn.0) in
    let decided : c.some_below.result ≡ list_any (λ m. g.O.Order.leq c.args.order.now m c.in-Some.item) c.loop-item.made.items =
    c.some_below.ensures ∙ ap (list_any (λ m. g.O.Order.leq c.args.order.now m c.in-Some.item)) (window_is c.deref.result.now c.saturating_sub-last.result before_last ∙ ap last_of c.deref.ensures.value)
    ∙ last_decides leq c.loop-item.made.items c.in-Some.item (drop (length c.loop-item.yielded) c.args.items) c.loop-item.invariant.decides at_place in
    rw more (elim c.else-not-some_below.branch [
      | else-not-some_below-via-then-not-some_below+else-is_err w ↦
          let free : list_any (λ m. g.O.Order.leq c.args.order.now m c.in-Some.item) c.loop-item.made.items ≡ false = sym decided ∙ w.if-not-some_below.true in
          let none : list_any (λ m. g.O.Order.leq c.args.order.now m c.in-Some.item) (inserted_all (g.O.Order.leq c.args.order.now) [] (take (length c.loop-item.yielded) c.args.items)) ≡ false = rw (← c.loop-item.invariant.members) free in
          let listed : (m : g.row.T.Denot) → IsMember m c.loop-item.made.items → IsMember m (take (length c.loop-item.yielded) c.args.items) = rw c.loop-item.invariant.members
          (seen (g.O.Order.is_value c.args.order.now) leq (g.met.O.Order.laws c.args.order.now) c.args.items c.requires.values n) in
          let pushed : w.push.new.self.items ≡ c.loop-item.made.items ++ c.in-Some.item ∷ [] = search rules in
          rw (w.made-is, pushed) (record {
            members = rw c.loop-item.invariant.members (goes_last (g.O.Order.is_value c.args.order.now) leq (g.met.O.Order.laws c.args.order.now) c.args.items c.requires.values n c.in-Some.item turn.0 turn.1 c.requires.in_order none);
            decides = decides_new leq c.loop-item.made.items c.args.items n c.in-Some.item turn.0 turn.1 c.requires.handed_on listed free;
          })
      | else-not-some_below-via-else-not-some_below w ↦
          let some : list_any (λ m. g.O.Order.leq c.args.order.now m c.in-Some.item) (inserted_all (g.O.Order.leq c.args.order.now) [] (take (length c.loop-item.yielded) c.args.items)) ≡ true =
          rw (← c.loop-item.invariant.members) (sym decided ∙ w.if-not-some_below.false) in
          rw (w.made-is) (record {
            members = rw c.loop-item.invariant.members (stays_out (g.O.Order.is_value c.args.order.now) leq (g.met.O.Order.laws c.args.order.now) c.args.items c.requires.values n c.in-Some.item turn.0 turn.1 some);
            decides = decides_later leq c.loop-item.made.items c.args.items n c.loop-item.invariant.decides;
          })
    ])

pub returns-clause-minima : goal.returns-clause-minima
returns-clause-minima g c =
    let into = c.into_iter-item-iterator.ensures.into_iter_gives in
    let same : c.into_iter-item-iterator.result.rest.items ≡ c.args.items = into.0 ∙ c.into_vec-item-items.ensures in
    let end = YieldsList-end (YieldsList-from_vec {s = c.into_iter-item-iterator.result} c.args.items same (into.1 ∙ c.into_vec-item-items.result.ok.0 ∙ ap length c.into_vec-item-items.ensures)) c.loop-item.yielded c.loop-item.item-iterator c.loop-item.yielded_by c.next.result c.next.new.self c.in-None.is c.next.ensures.steps in
    let all : c.loop-item.yielded ≡ c.args.items = sym (map-id c.loop-item.yielded) ∙ end.0 in
    let within : length c.args.items ≤ length c.args.items = omega arith in
    c.loop-item.invariant.members ∙ ap (λ (ys : List g.row.T.Denot). inserted_all (g.O.Order.leq c.args.order.now) [] (take (length ys) c.args.items)) all
    ∙ ap (inserted_all (g.O.Order.leq c.args.order.now) []) (take_all (length c.args.items) c.args.items within)
    ∙ inserted_all-minima (g.O.Order.is_value c.args.order.now) (g.O.Order.leq c.args.order.now) (g.met.O.Order.laws c.args.order.now) c.args.items c.requires.values

pub returns-clause-basis : goal.returns-clause-basis
returns-clause-basis g c =
    subst (λ (made : List g.row.T.Denot). IsBasis (g.O.Order.leq c.args.order.now) (λ y. IsMember y c.args.items) made) (sym (returns-clause-minima g c))
    (minima_are (g.O.Order.is_value c.args.order.now) (g.O.Order.leq c.args.order.now) (g.met.O.Order.laws c.args.order.now) c.args.items c.requires.values)

pub returns-clause-exact : goal.returns-clause-exact
returns-clause-exact g c =
    λ x. subst (λ (made : List g.row.T.Denot). IsMember x made ↔ IsMinimal (g.O.Order.leq c.args.order.now) (λ y. IsMember y c.args.items) x) (sym (returns-clause-minima g c))
    (minima_exact (g.O.Order.is_value c.args.order.now) (g.O.Order.leq c.args.order.now) (g.met.O.Order.laws c.args.order.now) c.args.items c.requires.values x)

pub returns-clause-members : goal.returns-clause-members
returns-clause-members g c =
    rw (c.loop-item.invariant.members)
    (so_far_apart (g.O.Order.is_value c.args.order.now) (g.O.Order.leq c.args.order.now) (g.met.O.Order.laws c.args.order.now) c.args.items c.requires.values (length c.loop-item.yielded)).0

pub returns-clause-incomparable : goal.returns-clause-incomparable
returns-clause-incomparable g c =
    rw (c.loop-item.invariant.members)
    (so_far_apart (g.O.Order.is_value c.args.order.now) (g.O.Order.leq c.args.order.now) (g.met.O.Order.laws c.args.order.now) c.args.items c.requires.values (length c.loop-item.yielded)).1
