use Rattle.std.proofs.Common.{◌≡◌, ◌∙◌, ◌<◌, sym, ap, ℕ, length, map, arith, slice_index_or}
use Rattle.std.proofs.lemmas.List.{with_items_is, get_or_read}
use Rattle.order_core.specs.Word.{is_in_word}
use Rattle.order_core.proofs.ClosingSteps.{joined_row, first_below, pair_known, pair_joined}
use Rattle.order_core.proofs.closing.closure.Goals as goal
use Rattle.order_core.proofs.closing.closure.Goals.{then-not-is_in_word, else-not-is_in_word}

pub loop-a-preserved : goal.loop-a-preserved
loop-a-preserved c =
    let pair = slice_index_or c.args.pairs.now c.loop-a.a-index (0, 0) in
    let within : pair.0 < length c.loop-a.table.items = omega (arith, c.loop-a.invariant.size, first_below c.args.n c.args.pairs.now c.loop-a.a-index c.loop-a-test.true c.requires.pairs) in
    let row = get_or_read c.loop-a.table.items pair.0 _ within c.index.ensures 0 in
    elim c.if-not-is_in_word.branch [
      | then-not-is_in_word w ↦
          let made : w.join.new.table ≡ map (joined_row c.loop-a.table.items pair.0 pair.1) c.loop-a.table.items = rw w.as_mut_slice.ensures.value at w.join.ensures in
          pair_joined _ _ _ c.loop-a-test.true c.requires.pairs c.loop-a.table.items _ c.loop-a.invariant
          (ap (λ v. v.items) w.table-is ∙ with_items_is c.loop-a.table w.join.new.table (omega arith) ∙ made)
      | else-not-is_in_word w ↦
          pair_known _ _ _ c.loop-a-test.true c.requires.pairs c.loop-a.table.items _ c.loop-a.invariant
          (sym (ap (λ (z : ℕ). is_in_word z pair.1) row) ∙ sym c.is_in_word.ensures ∙ w.if-not-is_in_word.false) (ap (λ v. v.items) w.table-is)
    ]
