use Rattle.std.proofs.Common.{◌<◌, ◌∙◌, ◌*◌, ◌%◌, ◌^◌, w64, sym, get_or}
use mir.Val.{bits}
use Rattle.std.specs.Prelude.{nat_eq, nat_lt}
use Rattle.std.proofs.lemmas.List.Folds.{list_any_more}
use Rattle.std.proofs.lemmas.Bool.{ltb-true}
use Rattle.order_core.specs.MemberLaws.{all_at}
use Rattle.order_core.specs.WordLaws.{has_or, has_shifted}
use Rattle.order_core.proofs.word.word_of.Goals as goal

pub loop-number-preserved : goal.loop-number-preserved
loop-number-preserved c = λ x.
    let at = get_or c.args.numbers.now c.loop-number.number-index 0 in
    let few : at < 64 = ltb-true at 64 (all_at (λ y. nat_lt y 64) c.args.numbers.now c.loop-number.number-index 0 c.requires c.loop-number-test.true) in
    let before = c.loop-number.invariant x in
    let shifted = has_shifted at x few in
    has_or c.loop-number.word (1 * 2 ^ at % 2 ^ bits w64) x
    ∙ rw (before, shifted) (sym (list_any_more (nat_eq x) c.args.numbers.now c.loop-number.number-index 0 c.loop-number-test.true))
