use Rattle.std.proofs.Common.{sym, ◌∙◌, ◌≡◌, ◌<◌, ◌≤◌, ◌^◌, false, arith}
use Rattle.std.proofs.lemmas.Bool.Decides.{nat_tests}
use Rattle.std.specs.Prelude.{nat_lt}
use Rattle.order_core.specs.WordLaws.{has_beyond}
use Rattle.order_core.proofs.word.is_in_word.Goals as goal

pub returns-else-number-lt64 : goal.returns-else-number-lt64
returns-else-number-lt64 c =
    let word : c.args.word < 2 ^ 64 = c.ranges.word.fits in
    let beyond : 64 ≤ c.args.number = grind (arith, nat_tests, c.if-number-lt64.false) in
    let small : nat_lt c.args.number 64 ≡ false = grind (arith, nat_tests, c.if-number-lt64.false) in
    small ∙ sym (has_beyond 64 c.args.word c.args.number word beyond)
