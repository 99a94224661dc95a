use Rattle.std.proofs.Common.{◌≡◌, ◌&&◌, true, false, [], get_or, sym, arith, ◌∙◌}
use Rattle.std.proofs.lemmas.List.{get_or_read}
use Rattle.cut_plan.proofs.TurnLemmas.{ready_is, stops, passes_on}
use Rattle.cut_plan.specs.Turns.{table_reads, left_from, is_left}
use Rattle.design_model.specs.Evaluation.{is_ready, first_or}
use Rattle.cut_plan.proofs.order.next_part.Goals as goal

pub returns-then-is_next : goal.returns-then-is_next
returns-then-is_next c =
    let reads = c.args.reads.now in
    let taken = c.args.taken.now in
    let part = c.loop-part.part in
    let signals : c.items.result.now ≡ get_or reads part [] = c.items.ensures ∙ get_or_read reads part _ c.loop-part-test.true c.index-reads-part.is [] in
    let test : (is_left taken part && is_ready (table_reads reads) (left_from 0 taken) part) ≡ true = rw (ready_is reads taken part, ← signals) (sym c.is_next.ensures ∙ c.if-is_next.true) in
    sym (c.loop-part.invariant.passed (first_or 0 (left_from 0 taken)) ∙ stops (is_ready (table_reads reads) (left_from 0 taken)) taken part _ (omega (arith, c.loop-part.invariant.same)) test)

pub loop-part-preserved : goal.loop-part-preserved
loop-part-preserved c =
    let reads = c.args.reads.now in
    let taken = c.args.taken.now in
    let part = c.loop-part.part in
    let signals : c.items.result.now ≡ get_or reads part [] = c.items.ensures ∙ get_or_read reads part _ c.loop-part-test.true c.index-reads-part.is [] in
    let test : (is_left taken part && is_ready (table_reads reads) (left_from 0 taken) part) ≡ false = rw (ready_is reads taken part, ← signals) (sym c.is_next.ensures ∙ c.if-is_next.false) in
    record {
      same = c.loop-part.invariant.same;
      passed = λ d. c.loop-part.invariant.passed d ∙ passes_on (is_ready (table_reads reads) (left_from 0 taken)) taken part d (omega (arith, c.loop-part.invariant.same)) test;
    }
