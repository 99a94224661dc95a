use Rattle.std.proofs.Common.{sym, ◌∙◌}
use Rattle.order_core.specs.MemberLaws.{append_nil}
use Rattle.order_core.proofs.Growth.{put_more, put_last}
use Rattle.order_core.proofs.choices.put_each.Goals as goal

pub loop-item-init : goal.loop-item-init
loop-item-init g c = sym (append_nil c.args.made.now.items)

pub loop-item-preserved : goal.loop-item-preserved
loop-item-preserved g c =
    c.in_ok-put_one.ensures ∙ put_more _ _ _ _ _ _ _ c.loop-item.invariant (c.in_ok-front.ensures ∙ c.items.ensures) c.loop-item-test.true c.item-item.is

pub returns : goal.returns
returns g c =
    rw (put_last c.args.made.now.items c.loop-item.made.items c.in-Some.others.now c.args.tuple c.into_vec.result.items c.loop-item.item-index c.in-Some.last.now
    c.loop-item.invariant c.into_vec.ensures c.args.items.now c.loop-item-test.false c.in-Some.ensures.cases.0)
    at c.put_one-2.ensures
