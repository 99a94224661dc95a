use Rattle.std.proofs.Common.{◌≡◌, length, sym, ◌∙◌}
use Rattle.cut_plan.specs.OrderLaws.{turns_order, turns_length}
use Rattle.cut_plan.proofs.SignalLemmas.{table_length, plan_order, plan_cuts}
use Rattle.design_model.specs.Evaluation.{part_reads, numbers_from}
use Rattle.cut_plan.proofs.cuts.plan_of.Goals as goal

pub places_of-requires : goal.places_of-requires
places_of-requires c =
    let r = part_reads c.args.constraints.now in
    let n = c.args.count in
    let order = plan_order c.args.constraints.now n c.in_ok-table.table.items c.in_ok-order.order.items c.in_ok-table.ensures (rw c.as_slice.ensures.value at c.in_ok-order.ensures) in
    rw (c.as_slice-2.ensures.value, order, turns_length r n (numbers_from 0 n)) (turns_order r n)

pub late_reads-requires : goal.late_reads-requires
late_reads-requires c =
    let r = part_reads c.args.constraints.now in
    let n = c.args.count in
    let order = plan_order c.args.constraints.now n c.in_ok-table.table.items c.in_ok-order.order.items c.in_ok-table.ensures (rw c.as_slice.ensures.value at c.in_ok-order.ensures) in
    let long : length c.in_ok-order.order.items ≡ n = rw order (turns_length r n (numbers_from 0 n)) in
    let size : length c.in_ok-places.places.items ≡ length c.in_ok-order.order.items = rw c.as_slice-2.ensures.value at c.in_ok-places.ensures.size in
    rw (c.as_slice-3.ensures.value, c.as_slice-4.ensures.value, c.in_ok-table.ensures, table_length c.args.constraints.now 0 n) (sym (size ∙ long))

pub returns-clause-order : goal.returns-clause-order
returns-clause-order c =
    plan_order c.args.constraints.now c.args.count c.in_ok-table.table.items c.in_ok-order.order.items c.in_ok-table.ensures (rw c.as_slice.ensures.value at c.in_ok-order.ensures)

pub returns-clause-cut : goal.returns-clause-cut
returns-clause-cut c =
    let order = plan_order c.args.constraints.now c.args.count c.in_ok-table.table.items c.in_ok-order.order.items c.in_ok-table.ensures (rw c.as_slice.ensures.value at c.in_ok-order.ensures) in
    plan_cuts c.args.constraints.now c.args.count c.in_ok-table.table.items c.in_ok-order.order.items c.in_ok-places.places.items c.in_ok-cut.cut.items c.in_ok-table.ensures order
    (rw c.as_slice-2.ensures.value at c.in_ok-places.ensures.size) (rw c.as_slice-2.ensures.value at c.in_ok-places.ensures.places)
    (rw (c.as_slice-3.ensures.value, c.as_slice-4.ensures.value) at c.in_ok-cut.ensures)
