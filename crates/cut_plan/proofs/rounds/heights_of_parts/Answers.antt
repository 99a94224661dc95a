use Rattle.std.proofs.Common.{◌≡◌, ◌+◌, drop, ap, ◌∙◌, sym, arith, rules}
use Rattle.std.specs.Prelude.{None}
use Rattle.design_model.specs.Heights.{sum_all}
use Rattle.design_model.specs.Parts.{required_ports}
use Rattle.cut_plan.proofs.NetHeightsLemmas.{parts_step}
use Rattle.cut_plan.proofs.SumLaws.{sum_joined, sum_step, sum_none}
use Rattle.cut_plan.specs.Totals.{sum_from, port_heights, all_heights}
use Rattle.cut_plan.proofs.rounds.heights_of_parts.Goals as goal

pub returns-in_default : goal.returns-in_default
returns-in_default c =
    let t = c.args.types.now in
    let i = c.loop-number.number in
    let p = c.index-parts-number.result in
    let here = port_heights t p.design c.args.listed.now i 0 (required_ports p.design) in
    let rest = all_heights t c.args.listed.now (i + 1) (drop (i + 1) c.args.parts.now) in
    let none : c.in_ok-height.field-0 ≡ None = search rules in
    let said = rw none at c.in_ok-height.ensures in
    sym (c.loop-number.invariant.sums ∙ ap (sum_from c.loop-number.total) (parts_step t c.args.listed.now c.args.parts.now i p c.loop-number-test.true c.index-parts-number.is)
    ∙ sum_joined c.loop-number.total here rest ∙ sum_none c.loop-number.total (sum_all here) rest said)

pub loop-number-preserved : goal.loop-number-preserved
loop-number-preserved c =
    let t = c.args.types.now in
    let i = c.loop-number.number in
    let p = c.index-parts-number.result in
    let here = port_heights t p.design c.args.listed.now i 0 (required_ports p.design) in
    let rest = all_heights t c.args.listed.now (i + 1) (drop (i + 1) c.args.parts.now) in
    let said = rw c.in-Some.is at c.in_ok-height.ensures in
    record {
      small = omega (arith, c.saturating_add-total.ensures);
      sums = rw c.saturating_add-total.ensures (c.loop-number.invariant.sums
          ∙ ap (sum_from c.loop-number.total) (parts_step t c.args.listed.now c.args.parts.now i p c.loop-number-test.true c.index-parts-number.is)
          ∙ sum_joined c.loop-number.total here rest ∙ sum_step c.loop-number.total c.in-Some.height (sum_all here) rest said);
    }
