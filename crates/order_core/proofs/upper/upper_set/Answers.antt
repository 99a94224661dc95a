use Rattle.std.proofs.Common.{◌∙◌, ◌≡◌, ap, sym, ℕ, get_or}
use Rattle.std.proofs.lemmas.List.Folds.{list_any_more}
use Rattle.order_core.specs.Finite.{is_below}
use Rattle.order_core.specs.Word.{is_in_word}
use Rattle.order_core.specs.WordLaws.{has_or}
use Rattle.order_core.proofs.upper.upper_set.Goals as goal

pub loop-member-preserved : goal.loop-member-preserved
loop-member-preserved c = λ x.
    let before = c.loop-member.invariant x in
    let row : is_in_word c.row-word.result x ≡ is_below c.args.base.now.table (get_or c.args.members.now c.loop-member.member-index 0) x = ap (λ (z : ℕ). is_in_word z x) c.row-word.ensures in
    has_or c.loop-member.word c.row-word.result x
    ∙ rw (before, row) (sym (list_any_more (λ (y : ℕ). is_below c.args.base.now.table y x) c.args.members.now c.loop-member.member-index 0 c.loop-member-test.true))
