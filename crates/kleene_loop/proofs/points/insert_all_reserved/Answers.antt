use Rattle.std.proofs.Common.{◌≡◌, ◌∙◌, [], ◌∷◌, ◌++◌, sym, ap, reverse, arith, IsTrue}
use Rattle.std.specs.List.{list_all}
use Rattle.std.proofs.lemmas.List.{reverse-append}
use Rattle.std.proofs.lemmas.List.Folds.{list_all-append}
use Rattle.order_core.specs.MemberLaws.{first}
use Rattle.antichain.specs.Minima.{inserted_all}
use Rattle.kleene_loop.proofs.points.insert_all_reserved.Goals as goal

pub loop-item-preserved : goal.loop-item-preserved
loop-item-preserved g c =
    let rest = c.pop.new.self.items in
    let front : c.loop-item.items.items ≡ c.pop.new.self.items ++ c.in-Some.item ∷ [] = c.in-Some.ensures.items in
    let back : reverse c.loop-item.items.items ≡ c.in-Some.item ∷ reverse c.pop.new.self.items = ap reverse front ∙ reverse-append rest (c.in-Some.item ∷ []) in
    let values : IsTrue (list_all (g.O.Order.is_value c.args.order.now) (rest ++ c.in-Some.item ∷ [])) = sym (ap (list_all (g.O.Order.is_value c.args.order.now)) front) ∙ c.loop-item.invariant.3 in (
      ap (λ members. inserted_all (g.O.Order.leq c.args.order.now) members (reverse rest)) c.insert_reserved.ensures.items
          ∙ sym (ap (inserted_all (g.O.Order.leq c.args.order.now) c.loop-item.members.items) back) ∙ c.loop-item.invariant.0,
      c.insert_reserved.ensures.members_are_values,
      c.insert_reserved.ensures.incomparable,
      first _ _ (sym (list_all-append (g.O.Order.is_value c.args.order.now) rest (c.in-Some.item ∷ [])) ∙ values),
      omega (arith, c.loop-item.invariant.4, c.insert_reserved.ensures.len, c.insert_reserved.ensures.capacity, c.in-Some.ensures.len),
    )
