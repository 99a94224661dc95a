use Rattle.std.proofs.Common.{rules, ◌≡◌, ◌∙◌, ◌<◌, Some, ap, sym, length, List}
use Rattle.query_read.proofs.RowLemmas.{each_more, first_bad}
use Rattle.row_values.specs.Values.{value_meant}
use Rattle.value_type.specs.declared.port.Port.{Port}
use Rattle.value_type.specs.declared.value.Value.{Value}
use Rattle.query_read.proofs.row.row_of_trees.Goals as goal

pub returns-in-Err-Bad : goal.returns-in-Err-Bad
returns-in-Err-Bad c =
    let width : length c.args.trees.now ≡ length c.args.ports.now = search rules in
    first_bad c.args.types.now c.args.rounding c.args.ports.now c.args.trees.now c.loop-at.at c.index-ports-at.result c.index-trees-at.result c.loop-at.values.items width c.loop-at-test.true c.index-ports-at.is c.index-trees-at.is c.loop-at.invariant
    c.in-Err-Bad.field-0 c.in-Err-Bad.field-0-is c.in-Err-Bad.ensures

pub loop-at-preserved : goal.loop-at-preserved
loop-at-preserved c =
    let inside : c.loop-at.at < length c.args.ports.now = search rules in
    each_more (λ (port : Port). value_meant c.args.types.now c.args.rounding port.kind) c.args.ports.now c.args.trees.now c.loop-at.at c.index-ports-at.result c.index-trees-at.result inside c.loop-at-test.true c.index-ports-at.is c.index-trees-at.is
    c.loop-at.values.items c.in-Ok.value c.loop-at.invariant (rw (← c.index-ports-at.is) at c.in-Ok.ensures)
    ∙ ap (λ (values : List Value). Some values) (sym c.in_ok-push.ensures.items)
