use Rattle.std.proofs.Common.{◌≡◌, ◌++◌, ◌∷◌, [], sym, rules}
use Rattle.std.specs.List.{list_all}
use Rattle.order_core.specs.Finite as finite
use Rattle.order_core.specs.Num as numbers
use Rattle.order_core.specs.PartnerLaws.{least_done, least_more}
use Rattle.order_core.specs.ProductLaws.{least_values, product_least}
use Rattle.order_core.specs.Upper as upper
use Rattle.value_type.specs.declared.value.Value.TheVariants as value
use Rattle.value_type.specs.declared.kind.Kind.TheVariants as kind
use Rattle.value_type.specs.Fits.{fits, row_fits}
use Rattle.value_type.specs.Leq.{leq, row_leq}
use Rattle.value_type.proofs.KindBoundLemmas.{wrapped_least}
use Rattle.value_type.specs.KindBoundLaws.{can_copy_choices}
use Rattle.value_type.specs.Forms.{number_value}
use Rattle.value_type.specs.KindLaws.{embeds-Num, embeds-Fin, embeds-Prod, embeds-Up}
use Rattle.value_type.proofs.least.+least.Goals as goal

pub least_of-returns-in_ok-least-in-Num : goal.least_of-returns-in_ok-least-in-Num
least_of-returns-in_ok-least-in-Num t c =
    wrapped_least numbers.is_number numbers.number_leq number_value c.args.types.now c.args.kind.now (kind.Num c.in-Num.field-0) (embeds-Num c.args.types.now c.in-Num.field-0) c.in-Num.is
    c.numbers.result _ c.numbers.ensures c.in_ok-least-in-Num.ensures

pub least_of-returns-in_ok-least-in-Some : goal.least_of-returns-in_ok-least-in-Some
least_of-returns-in_ok-least-in-Some t c =
    let p = c.in-Some.poset.now in
    wrapped_least (finite.is_element p.order.table) (finite.is_below p.order.table) value.El c.args.types.now c.args.kind.now (kind.Fin c.in-Fin.k)
    (embeds-Fin c.args.types.now c.in-Fin.k p (sym c.in-Some.ensures)) c.in-Fin.is c.elements.result _ c.elements.ensures c.in_ok-least-in-Some.ensures.least

pub least_of-returns-in_ok-least_rows-in-Prod : goal.least_of-returns-in_ok-least_rows-in-Prod
least_of-returns-in_ok-least_rows-in-Prod t c =
    let T = c.args.types.now in
    wrapped_least (row_fits T c.in-Prod.kinds) (row_leq T c.in-Prod.kinds) value.Tup T c.args.kind.now (kind.Prod c.in-Prod.kinds) (embeds-Prod T c.in-Prod.kinds) c.in-Prod.is
    c.tuples.result c.in_ok-least_rows-in-Prod.field-0 c.tuples.ensures (rw c.items.ensures at c.in_ok-least_rows-in-Prod.ensures)

pub least_of-returns-in_ok-least_sets-in-Some-get : goal.least_of-returns-in_ok-least_sets-in-Some-get
least_of-returns-in_ok-least_sets-in-Some-get t c =
    let p = c.in-Some-get.poset.now in
    wrapped_least (upper.is_upper p.order.table) (upper.upper_leq p.order.table) value.Up c.args.types.now c.args.kind.now (kind.Up c.in-Up.k)
    (embeds-Up c.args.types.now c.in-Up.k p (sym c.in-Some-get.ensures)) c.in-Up.is c.upper_sets.result _ c.upper_sets.ensures c.in_ok-least_sets-in-Some-get.ensures

pub least_of_each-loop-kind-preserved : goal.least_of_each-loop-kind-preserved
least_of_each-loop-kind-preserved t c =
    let grown : c.push.new.self.items ≡ c.loop-kind.made.items ++ c.in_ok-values.values ∷ [] = search rules in
    rw grown
    (least_more (fits c.args.types.now) (leq c.args.types.now) _ _ c.loop-kind.kind-index c.kind-item.result c.in_ok-values.values c.loop-kind.invariant c.loop-kind-test.true c.kind-item.is
    c.in_ok-values.ensures)

pub least_of_each-returns : goal.least_of_each-returns
least_of_each-returns t c = least_done (fits c.args.types.now) (leq c.args.types.now) _ _ _ c.loop-kind.invariant c.loop-kind-test.false

pub least_rows-product_of-requires : goal.least_rows-product_of-requires
least_rows-product_of-requires t c =
    let values = least_values (fits c.args.types.now) (leq c.args.types.now) _ _ c.in_ok-choices.ensures in
    rw c.as_slice.ensures.value (can_copy_choices (λ k. list_all (fits c.args.types.now k)) c.args.kinds.now c.in_ok-choices.choices.items values)

pub least_rows-returns : goal.least_rows-returns
least_rows-returns t c =
    rw (c.of.ensures, c.in_ok-product_of.ensures, c.as_slice.ensures.value)
    (product_least (fits c.args.types.now) (leq c.args.types.now) c.args.kinds.now c.in_ok-choices.choices.items c.in_ok-choices.ensures)
