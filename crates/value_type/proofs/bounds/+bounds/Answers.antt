use Rattle.std.proofs.Common.{◌≡◌, ◌++◌, ◌∷◌, [], ◌<◌, length, sym, rules, arith}
use Rattle.std.specs.List.{list_all}
use Rattle.order_core.specs.Finite as finite
use Rattle.order_core.specs.Num as numbers
use Rattle.order_core.specs.PartnerLaws.{are_values_length, are_values_rest, bounds_done, bounds_more}
use Rattle.order_core.specs.ProductLaws.{bounds_values, product_bounds}
use Rattle.order_core.specs.Upper as upper
use Rattle.value_type.specs.declared.value.Value.TheVariants as value
use Rattle.value_type.specs.declared.kind.Kind.TheVariants as kind
use Rattle.value_type.specs.Fits.{fits, row_fits}
use Rattle.value_type.specs.Leq.{leq, row_leq}
use Rattle.value_type.proofs.KindBoundLemmas.{wrapped_bounds}
use Rattle.value_type.specs.KindBoundLaws.{can_copy_choices}
use Rattle.value_type.specs.Forms.{number_value}
use Rattle.value_type.specs.KindLaws.{embeds-Num, embeds-Fin, embeds-Prod, embeds-Up}
use Rattle.value_type.proofs.bounds.+bounds.Goals as goal

pub bounds_of-returns-in_ok-bounds-in-Num : goal.bounds_of-returns-in_ok-bounds-in-Num
bounds_of-returns-in_ok-bounds-in-Num t c =
    let T = c.args.types.now in
    wrapped_bounds numbers.is_number numbers.number_leq number_value T c.args.kind.now (kind.Num c.in-Num.field-0) (embeds-Num T c.in-Num.field-0) c.in-Num.is
    c.numbers.result _ c.numbers.ensures c.number_of.result c.number_of-in-Num.result c.args.a.now c.args.b.now c.number_of.ensures c.number_of-in-Num.ensures c.in_ok-bounds-in-Num.ensures

pub bounds_of-returns-in_ok-bounds-in-Some : goal.bounds_of-returns-in_ok-bounds-in-Some
bounds_of-returns-in_ok-bounds-in-Some t c =
    let T = c.args.types.now in
    let p = c.in-Some.poset.now in
    wrapped_bounds (finite.is_element p.order.table) (finite.is_below p.order.table) value.El T c.args.kind.now (kind.Fin c.in-Fin.k) (embeds-Fin T c.in-Fin.k p (sym c.in-Some.ensures)) c.in-Fin.is
    c.elements.result _ c.elements.ensures c.element_of.result c.element_of-in-Some.result c.args.a.now c.args.b.now c.element_of.ensures c.element_of-in-Some.ensures c.in_ok-bounds-in-Some.ensures.bounds

pub bounds_of-returns-in_ok-row_bounds-in-Prod : goal.bounds_of-returns-in_ok-row_bounds-in-Prod
bounds_of-returns-in_ok-row_bounds-in-Prod t c =
    let T = c.args.types.now in
    wrapped_bounds (row_fits T c.in-Prod.kinds) (row_leq T c.in-Prod.kinds) value.Tup T c.args.kind.now (kind.Prod c.in-Prod.kinds) (embeds-Prod T c.in-Prod.kinds) c.in-Prod.is
    c.tuples.result c.in_ok-row_bounds-in-Prod.field-0 c.tuples.ensures c.parts_of.result.now c.parts_of-in-Prod.result.now c.args.a.now c.args.b.now c.parts_of.ensures c.parts_of-in-Prod.ensures
    (rw c.items.ensures at c.in_ok-row_bounds-in-Prod.ensures)

pub bounds_of-returns-in_ok-set_bounds-in-Some-get : goal.bounds_of-returns-in_ok-set_bounds-in-Some-get
bounds_of-returns-in_ok-set_bounds-in-Some-get t c =
    let T = c.args.types.now in
    let p = c.in-Some-get.poset.now in
    wrapped_bounds (upper.is_upper p.order.table) (upper.upper_leq p.order.table) value.Up T c.args.kind.now (kind.Up c.in-Up.k) (embeds-Up T c.in-Up.k p (sym c.in-Some-get.ensures)) c.in-Up.is
    c.upper_sets.result _ c.upper_sets.ensures c.members_of.result.now c.members_of-in-Some-get.result.now c.args.a.now c.args.b.now c.members_of.ensures c.members_of-in-Some-get.ensures
    c.in_ok-set_bounds-in-Some-get.ensures

pub bounds_of_each-loop-at-init : goal.bounds_of_each-loop-at-init
bounds_of_each-loop-at-init t c = record {
  xs_length = are_values_length (fits c.args.types.now) _ _ c.requires.xs_fit;
  ys_length = are_values_length (fits c.args.types.now) _ _ c.requires.ys_fit;
  xs_fit = c.requires.xs_fit;
  ys_fit = c.requires.ys_fit;
  bounds = λ rest h. rw c.new-made.ensures.items h;
}

pub bounds_of_each-loop-at-preserved : goal.bounds_of_each-loop-at-preserved
bounds_of_each-loop-at-preserved t c =
    let T = c.args.types.now in
    let grown : c.push.new.self.items ≡ c.loop-at.made.items ++ c.in_ok-values.values ∷ [] = search rules in
    let xs_in : c.loop-at.at < length c.args.xs.now = omega (arith, c.loop-at.invariant.xs_length) in
    let ys_in : c.loop-at.at < length c.args.ys.now = omega (arith, c.loop-at.invariant.ys_length) in
    record {
      xs_length = c.loop-at.invariant.xs_length;
      ys_length = c.loop-at.invariant.ys_length;
      xs_fit = are_values_rest (fits T) _ _ c.loop-at.at _ _ c.loop-at.invariant.xs_fit c.loop-at-test.true xs_in c.index-kinds-at.is c.index-xs-at.is;
      ys_fit = are_values_rest (fits T) _ _ c.loop-at.at _ _ c.loop-at.invariant.ys_fit c.loop-at-test.true ys_in c.index-kinds-at.is c.index-ys-at.is;
      bounds = rw grown
          (bounds_more (fits T) (leq T) _ _ _ _ c.loop-at.at c.index-kinds-at.result c.index-xs-at.result c.index-ys-at.result c.in_ok-values.values c.loop-at.invariant.bounds
          c.loop-at-test.true xs_in ys_in c.index-kinds-at.is c.index-xs-at.is c.index-ys-at.is c.in_ok-values.ensures);
    }

pub bounds_of_each-returns : goal.bounds_of_each-returns
bounds_of_each-returns t c =
    bounds_done (fits c.args.types.now) (leq c.args.types.now) _ _ _ _ _ c.loop-at.invariant.bounds c.loop-at-test.false (omega (arith, c.loop-at.invariant.xs_length))
    (omega (arith, c.loop-at.invariant.ys_length))

pub row_bounds-product_of-requires : goal.row_bounds-product_of-requires
row_bounds-product_of-requires t c =
    let T = c.args.types.now in
    let values = bounds_values (fits T) (leq T) c.args.kinds.now c.args.xs.now c.args.ys.now c.in_ok-choices.choices.items c.in_ok-choices.ensures in
    rw c.as_slice.ensures.value (can_copy_choices (λ k. list_all (fits T k)) c.args.kinds.now c.in_ok-choices.choices.items values)

pub row_bounds-returns : goal.row_bounds-returns
row_bounds-returns t c =
    let T = c.args.types.now in
    rw (c.of.ensures, c.in_ok-product_of.ensures, c.as_slice.ensures.value)
    (product_bounds (fits T) (leq T) c.args.kinds.now c.args.xs.now c.args.ys.now c.in_ok-choices.choices.items c.in_ok-choices.ensures)
