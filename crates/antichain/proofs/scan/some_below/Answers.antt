use Rattle.std.proofs.Common.{◌∙◌, ◌-◌, ◌<◌, length, sym, arith}
use Rattle.order_core.specs.MemberLaws.{all_at}
use Rattle.antichain.proofs.Backwards.{last_fails, last_passes}
use Rattle.antichain.proofs.scan.some_below.Goals as goal

pub bounds-items-left : goal.bounds-items-left
bounds-items-left g c = omega (arith, c.loop-left.invariant.within)

pub leq-requires-clause-a_is_value : goal.leq-requires-clause-a_is_value
leq-requires-clause-a_is_value g c =
    rw (c.index-items-left.is) (all_at (g.O.Order.is_value c.args.order.now) c.args.items.now (c.loop-left.left - 1) c.index-items-left.result c.requires.items_are_values (omega (arith, c.loop-left.invariant.within)))

pub returns-then-leq : goal.returns-then-leq
returns-then-leq g c =
    let inside : c.loop-left.left - 1 < length c.args.items.now = omega (arith, c.loop-left.invariant.within) in
    sym (c.loop-left.invariant.decides ∙ last_passes (λ (item : g.row.O-Item.Denot). g.O.Order.leq c.args.order.now item c.args.x.now) c.args.items.now c.loop-left.left c.index-items-left.result c.loop-left-test.true inside c.index-items-left.is
    (sym c.leq.ensures ∙ c.if-leq.true))

pub loop-left-preserved : goal.loop-left-preserved
loop-left-preserved g c =
    let inside : c.loop-left.left - 1 < length c.args.items.now = omega (arith, c.loop-left.invariant.within) in
    record {
      decides = c.loop-left.invariant.decides ∙ last_fails (λ (item : g.row.O-Item.Denot). g.O.Order.leq c.args.order.now item c.args.x.now) c.args.items.now c.loop-left.left c.index-items-left.result c.loop-left-test.true inside c.index-items-left.is
          (sym c.leq.ensures ∙ c.if-leq.false);
      within = omega (arith, c.loop-left.invariant.within);
    }
