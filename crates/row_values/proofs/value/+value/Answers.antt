use Rattle.std.proofs.Common.{rules, ◌<◌, ◌+◌, ◌++◌, ◌∙◌, sym, ap, length, map, drop, List}
use Rattle.std.proofs.lemmas.Result.{err_from_is_err_and}
use Rattle.std.specs.Prelude.{option_map}
use Rattle.row_values.proofs.ValueLemmas.{each_next, each_stopped, each_unequal}
use Rattle.row_values.specs.Values.{each_meant, value_meant}
use Rattle.value_type.specs.declared.value.Value.{Value}
use Rattle.row_values.proofs.value.+value.Goals as goal

pub values_of_trees-returns-then-trees-kinds : goal.values_of_trees-returns-then-trees-kinds
values_of_trees-returns-then-trees-kinds t c = each_unequal (value_meant c.args.types.now c.args.rounding) c.args.kinds.now c.args.trees.now c.if-trees-kinds.true

pub values_of_trees-returns-in_err-value : goal.values_of_trees-returns-in_err-value
values_of_trees-returns-in_err-value t c =
    let inside : c.loop-at.at < length c.args.kinds.now = search rules in
    let f = value_meant c.args.types.now c.args.rounding in
    let p = err_from_is_err_and c.from_residual.result c.from_residual.ensures.1 in
    rw (p.1, p.2) (each_stopped f c.args.kinds.now c.args.trees.now c.loop-at.at c.index-kinds-at.result c.index-trees-at.result inside c.loop-at-test.true c.index-kinds-at.is c.index-trees-at.is c.loop-at.values.items
    (each_meant (map f c.args.kinds.now) c.args.trees.now) c.loop-at.invariant c.in_err-value.field-0.0 c.in_err-value.ensures)

pub values_of_trees-loop-at-preserved : goal.values_of_trees-loop-at-preserved
values_of_trees-loop-at-preserved t c =
    let inside : c.loop-at.at < length c.args.kinds.now = search rules in
    let next = each_next (value_meant c.args.types.now c.args.rounding) c.args.kinds.now c.args.trees.now c.loop-at.at c.index-kinds-at.result c.index-trees-at.result inside c.loop-at-test.true c.index-kinds-at.is c.index-trees-at.is c.loop-at.values.items c.in_ok-value.value c.in_ok-value.ensures in
    c.loop-at.invariant ∙ next ∙ ap (λ (vs : List Value). option_map (λ rest. vs ++ rest) (each_meant (map (value_meant c.args.types.now c.args.rounding) (drop (c.loop-at.at + 1) c.args.kinds.now)) (drop (c.loop-at.at + 1) c.args.trees.now))) (sym c.in_ok-push.ensures.items)
