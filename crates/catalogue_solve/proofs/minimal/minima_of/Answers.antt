use Rattle.std.proofs.Common.{◌≡◌, ◌∙◌, sym, IsTrue, length}
use Rattle.order_core.specs.MemberLaws.{all_elim}
use Rattle.value_type.specs.Fits.{row_fits}
use Rattle.value_type.specs.KindOrderLaws.{row_laws}
use Rattle.value_type.specs.Leq.{row_leq}
use Rattle.catalogue_solve.specs.Numbers.{are_numbers}
use Rattle.catalogue_solve.proofs.MinimaOf.{sorted_minima}
use Rattle.catalogue_solve.proofs.NumberRows.{numbers_in_order, pairs_hand_on}
use Rattle.catalogue_solve.proofs.Rising.{sorted_pairs}
use Rattle.catalogue_solve.proofs.minimal.minima_of.Goals as goal

pub returns-then-not-are_numbers : goal.returns-then-not-are_numbers
returns-then-not-are_numbers c =
    let t = c.args.order.now.types.now in
    let kinds = c.args.order.now.kinds in
    let laws = row_laws t kinds in
    let made = sorted_minima (row_leq t kinds) c.args.rows.items c.in_ok-of.field-0
    (λ x m. laws.reflexive x (all_elim (row_fits t kinds) c.args.rows.items x c.requires.fit m))
    (rw c.of-rows.ensures at c.in_ok-of.ensures.minima) (rw c.of-rows.ensures at c.in_ok-of.ensures.exact) (rw c.of-rows.ensures at c.in_ok-of.ensures.basis)
    (sorted_pairs c.args.rows.items c.requires.sorted) in
    rw c.into_list.ensures made

pub of_swept-requires-clause-in_order : goal.of_swept-requires-clause-in_order
of_swept-requires-clause-in_order c =
    let t = c.args.order.now.types.now in
    let kinds = c.args.order.now.kinds in
    let laws = row_laws t kinds in
    let numbers : IsTrue (are_numbers c.args.order.now.kinds) = rw c.items.ensures at (sym c.are_numbers.ensures ∙ c.if-not-are_numbers.false) in
    rw c.of-rows.ensures (numbers_in_order t kinds numbers c.args.rows.items (λ x m. laws.reflexive x (all_elim (row_fits t kinds) c.args.rows.items x c.requires.fit m)) (sorted_pairs c.args.rows.items c.requires.sorted))

pub of_swept-requires-clause-handed_on : goal.of_swept-requires-clause-handed_on
of_swept-requires-clause-handed_on c =
    let t = c.args.order.now.types.now in
    let kinds = c.args.order.now.kinds in
    let numbers : IsTrue (are_numbers c.args.order.now.kinds) = rw c.items.ensures at (sym c.are_numbers.ensures ∙ c.if-not-are_numbers.false) in
    let two : length c.args.order.now.kinds ≡ 2 = rw c.items-2.ensures at c.if-items-eq2.true in
    rw c.of-rows.ensures (pairs_hand_on t kinds c.args.rows.items two numbers c.requires.fit (sorted_pairs c.args.rows.items c.requires.sorted))

pub returns-then-items-eq2 : goal.returns-then-items-eq2
returns-then-items-eq2 c =
    let t = c.args.order.now.types.now in
    let kinds = c.args.order.now.kinds in
    let laws = row_laws t kinds in
    let made = sorted_minima (row_leq t kinds) c.args.rows.items c.in_ok-of_swept.field-0
    (λ x m. laws.reflexive x (all_elim (row_fits t kinds) c.args.rows.items x c.requires.fit m))
    (rw c.of-rows.ensures at c.in_ok-of_swept.ensures.minima) (rw c.of-rows.ensures at c.in_ok-of_swept.ensures.exact) (rw c.of-rows.ensures at c.in_ok-of_swept.ensures.basis)
    (sorted_pairs c.args.rows.items c.requires.sorted) in
    rw c.into_list-then-items-eq2.ensures made

pub of_ordered-requires-clause-in_order : goal.of_ordered-requires-clause-in_order
of_ordered-requires-clause-in_order c =
    let t = c.args.order.now.types.now in
    let kinds = c.args.order.now.kinds in
    let laws = row_laws t kinds in
    let numbers : IsTrue (are_numbers c.args.order.now.kinds) = rw c.items.ensures at (sym c.are_numbers.ensures ∙ c.if-not-are_numbers.false) in
    rw c.of-rows.ensures (numbers_in_order t kinds numbers c.args.rows.items (λ x m. laws.reflexive x (all_elim (row_fits t kinds) c.args.rows.items x c.requires.fit m)) (sorted_pairs c.args.rows.items c.requires.sorted))

pub returns : goal.returns
returns c =
    let t = c.args.order.now.types.now in
    let kinds = c.args.order.now.kinds in
    let laws = row_laws t kinds in
    let made = sorted_minima (row_leq t kinds) c.args.rows.items c.in_ok-of_ordered.field-0
    (λ x m. laws.reflexive x (all_elim (row_fits t kinds) c.args.rows.items x c.requires.fit m))
    (rw c.of-rows.ensures at c.in_ok-of_ordered.ensures.minima) (rw c.of-rows.ensures at c.in_ok-of_ordered.ensures.exact) (rw c.of-rows.ensures at c.in_ok-of_ordered.ensures.basis)
    (sorted_pairs c.args.rows.items c.requires.sorted) in
    rw c.into_list-2.ensures made
