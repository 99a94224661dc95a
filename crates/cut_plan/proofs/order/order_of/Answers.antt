use Rattle.std.proofs.Common.{◌≡◌, ◌-◌, ◌<◌, ◌++◌, [], ◌∷◌, false, true, IsTrue, length, replicate, refl, ◌∙◌, append_assoc, arith, rules}
use Rattle.std.proofs.lemmas.List.{length-set, length-replicate}
use Rattle.cut_plan.proofs.TurnLemmas.{all_left, next_is_left, left_within, one_fewer, without_left, turns_step}
use Rattle.design_model.specs.EvaluationLaws.{many_numbers}
use Rattle.cut_plan.specs.Turns.{table_reads, left_from, is_left}
use Rattle.design_model.specs.Evaluation.{next}
use Rattle.cut_plan.proofs.order.order_of.Goals as goal

pub loop-turn-init : goal.loop-turn-init
loop-turn-init c =
    let n = length c.args.reads.now in
    let none : c.in-Ok.taken.items ≡ replicate n false = c.in-Ok.ensures.items_if_clones_equal (λ y k. search rules) in
    let left = all_left 0 n in
    let many : length (left_from 0 c.in-Ok.taken.items) ≡ n = rw (none, left) (many_numbers 0 n) in
    let all : n - 0 ≡ n = omega arith in
    record {
      size = rw none (length-replicate n false);
      left = omega (arith, many);
      decides = rw (none, left, c.new-order.ensures.items, all) refl;
    }

pub index_mut-requires : goal.index_mut-requires
index_mut-requires c =
    let taken = c.loop-turn.taken.items in
    let some : 0 < length (left_from 0 taken) = omega (arith, c.loop-turn.invariant.left, c.loop-turn-test.true) in
    let is_in : IsTrue (is_left taken c.next_part-part.result) = rw (c.next_part-part.ensures, c.as_slice.ensures.value) (next_is_left (table_reads c.args.reads.now) taken some) in
    omega (arith, left_within taken c.next_part-part.result is_in, c.loop-turn.taken.ok.0)

pub loop-turn-preserved : goal.loop-turn-preserved
loop-turn-preserved c =
    let r = table_reads c.args.reads.now in
    let taken = c.loop-turn.taken.items in
    let part = c.next_part-part.result in
    let some : 0 < length (left_from 0 taken) = omega (arith, c.loop-turn.invariant.left, c.loop-turn-test.true) in
    let is : part ≡ next r (left_from 0 taken) = rw c.as_slice.ensures.value at c.next_part-part.ensures in
    let is_in : IsTrue (is_left taken part) = rw is (next_is_left r taken some) in
    let grown : c.push.new.self.items ≡ c.loop-turn.order.items ++ part ∷ [] = search rules in
    let step = turns_step r (length c.args.reads.now) c.loop-turn._turn (left_from 0 taken) c.loop-turn-test.true in
    record {
      size = length-set taken part true ∙ c.loop-turn.invariant.size;
      left = omega (arith, one_fewer 0 part taken is_in, c.loop-turn.invariant.left);
      decides = rw (grown, append_assoc, ← without_left 0 part part taken (omega arith), is, ← step) c.loop-turn.invariant.decides;
    }
