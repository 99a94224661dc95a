use Rattle.std.proofs.Common.{get_or, length, ◌∙◌, arith}
use Rattle.std.proofs.lemmas.List.{length-set}
use Rattle.cut_plan.proofs.CutLaws.{placed_step, all_placed}
use Rattle.cut_plan.specs.OrderLaws.{item_at}
use Rattle.cut_plan.proofs.signals.places_of.Goals as goal

pub index_mut-requires : goal.index_mut-requires
index_mut-requires c =
    let order = c.args.order.now in
    omega (arith, c.requires.below (get_or order c.loop-at.at 0) (item_at order c.loop-at.at 0 c.loop-at-test.true), c.loop-at.invariant.size, c.loop-at.places.ok.0)

pub loop-at-preserved : goal.loop-at-preserved
loop-at-preserved c =
    let order = c.args.order.now in
    let places = c.loop-at.places.items in
    record {
      size = length-set places (get_or order c.loop-at.at 0) c.loop-at.at ∙ c.loop-at.invariant.size;
      known = placed_step (length order) order places c.loop-at.at c.requires c.loop-at.invariant.size c.loop-at-test.true c.loop-at.invariant.known;
    }

pub returns-clause-places : goal.returns-clause-places
returns-clause-places c =
    all_placed (length c.args.order.now) c.args.order.now c.loop-at.places.items c.requires
    (λ k h. c.loop-at.invariant.known k (omega (arith, c.loop-at-test.false)))
