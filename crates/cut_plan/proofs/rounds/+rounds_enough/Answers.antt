use Rattle.std.proofs.Common.{◌≡◌, ◌∙◌, rules}
use Rattle.std.specs.Prelude.{None}
use Rattle.cut_plan.proofs.MostLemmas.{most_step, choice_enough, net_none, net_some}
use Rattle.cut_plan.proofs.rounds.+rounds_enough.Goals as goal

pub greatest_of-loop-part-preserved : goal.greatest_of-loop-part-preserved
greatest_of-loop-part-preserved t c =
    let said = rw c.in-Some.is at c.in_ok-rounds.ensures in
    record {
      small = c.max-most.type_inv;
      decides = rw c.max-most.ensures (c.loop-part.invariant.decides
          ∙ most_step c.args.types.now c.loop-part.most c.in-Some.rounds c.args.parts.now c.loop-part.part-index c.part-item.result c.loop-part-test.true c.part-item.is said);
    }

pub rounds_enough-returns-in_default : goal.rounds_enough-returns-in_default
rounds_enough-returns-in_default t c =
    let none : c.in_ok-height-in-Net.field-0 ≡ None = search rules in
    let said = rw (none, c.items-in-Net.ensures, c.items-in-Net-2.ensures) at (c.in_ok-height-in-Net.ensures c.in-Net.provides c.in-Net.requires_) in
    rw c.in-Net.is (net_none c.args.types.now c.in-Net.provides c.in-Net.requires_ c.in-Net.parts c.in-Net.constraints said)

pub rounds_enough-returns-in-Choice : goal.rounds_enough-returns-in-Choice
rounds_enough-returns-in-Choice t c = rw c.in-Choice.is (simp choice_enough (rw c.items.ensures at c.greatest_of.ensures))

pub rounds_enough-returns-in-Some : goal.rounds_enough-returns-in-Some
rounds_enough-returns-in-Some t c =
    let said = rw (c.in-Some.is, c.items-in-Net.ensures, c.items-in-Net-2.ensures) at (c.in_ok-height-in-Net.ensures c.in-Net.provides c.in-Net.requires_) in
    let enough = net_some c.args.types.now c.in-Net.provides c.in-Net.requires_ c.in-Net.parts c.in-Net.constraints c.in-Some.height said in
    rw (c.in-Net.is, enough) (rw (c.items-in-Net-3.ensures, c.saturating_add.ensures) at c.greatest_of-in-Net.ensures)
