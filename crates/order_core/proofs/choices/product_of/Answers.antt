use Rattle.std.proofs.Common.{◌≡◌, ◌∙◌, ◌<◌, sym, ap, refl, [], ◌∷◌, length, IsTrue, arith, rules}
use Rattle.std.specs.List.{list_all, flat_map}
use Rattle.order_core.specs.Tuple.{with_each}
use Rattle.order_core.specs.PartnerLaws.{are_values_length, are_values_front, are_values_rest}
use Rattle.order_core.proofs.ProductLemmas.{product_of_none}
use Rattle.order_core.proofs.Growth.{joined-start, product_next, product_done, tuples_next}
use Rattle.order_core.proofs.choices.product_of.Goals as goal

pub returns-then-has_empty : goal.returns-then-has_empty
returns-then-has_empty g c = c.new-made.ensures.items ∙ sym (product_of_none c.args.choices.now (sym c.has_empty.ensures ∙ c.if-has_empty.true))

pub loop-at-init : goal.loop-at-init
loop-at-init g c =
    let one : c.push.new.self.items ≡ [] ∷ [] = search rules in
    record {
      same_length = are_values_length (λ part. list_all (g.C.Copier.can_copy part)) _ _ c.requires;
      choices = c.requires;
      tuples = rw one refl;
      made = rw one (joined-start _);
    }

pub loop-at-preserved : goal.loop-at-preserved
loop-at-preserved g c =
    let within : c.loop-at.at < length c.args.choices.now = omega (arith, c.loop-at.invariant.same_length) in
    let values : IsTrue (list_all (g.C.Copier.can_copy c.index-parts-at.result) c.index-choices-at.result) =
    are_values_front (λ part. list_all (g.C.Copier.can_copy part)) _ _ c.loop-at.at _ _ c.loop-at.invariant.choices c.loop-at-test.true within c.index-parts-at.is c.index-choices-at.is in
    let grown : c.in_ok-made.made.items ≡ flat_map (with_each c.index-choices-at.result) c.loop-at.made.items =
    c.in_ok-made.ensures ∙ ap (λ zs. flat_map (with_each zs) c.loop-at.made.items) c.items.ensures in
    record {
      same_length = c.loop-at.invariant.same_length;
      choices = are_values_rest (λ part. list_all (g.C.Copier.can_copy part)) _ _ c.loop-at.at _ _ c.loop-at.invariant.choices c.loop-at-test.true within c.index-parts-at.is c.index-choices-at.is;
      tuples = rw grown (tuples_next g.C.Copier.can_copy _ _ c.loop-at.at _ _ c.loop-at.invariant.tuples values c.loop-at-test.true c.index-parts-at.is);
      made = rw grown (product_next _ _ c.loop-at.at c.loop-at.invariant.made _ within c.index-choices-at.is);
    }

pub returns : goal.returns
returns g c = product_done _ _ c.loop-at.at c.loop-at.invariant.made (omega (arith, c.loop-at.invariant.same_length))
