use Rattle.std.proofs.Common.{◌≡◌, ◌∙◌, sym, length, arith}
use Rattle.order_core.proofs.MinimalSteps.{none_covered, covered_kept, covered_more}
use Rattle.order_core.proofs.minimal.covered.Goals as goal
use Rattle.order_core.proofs.minimal.covered.Goals.{then-is_in_word, else-is_in_word}

pub loop-at-init : goal.loop-at-init
loop-at-init c = none_covered c.args.table.now c.args.word

pub loop-at-preserved : goal.loop-at-preserved
loop-at-preserved c = elim c.if-is_in_word.branch [
  | then-is_in_word w ↦ covered_more _ _ _ _ c.loop-at.invariant _ w.covered-is (sym c.is_in_word.ensures ∙ w.if-is_in_word.true) (omega arith)
  | else-is_in_word w ↦ covered_kept _ _ _ _ c.loop-at.invariant _ w.covered-is (sym c.is_in_word.ensures ∙ w.if-is_in_word.false)
]

pub returns : goal.returns
returns c =
    let all : c.loop-at.at ≡ length c.args.table.now = omega arith in
    rw all at c.loop-at.invariant
