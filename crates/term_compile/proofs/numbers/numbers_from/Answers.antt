use Rattle.std.proofs.Common.{◌≡◌, ◌++◌, [], ◌∷◌, append_assoc, rules}
use Rattle.term_compile.proofs.NumberLemmas.{numbers_step}
use Rattle.term_compile.proofs.numbers.numbers_from.Goals as goal

pub loop-at-preserved : goal.loop-at-preserved
loop-at-preserved c =
    let grown : c.push.new.self.items ≡ c.loop-at.made.items ++ c.in_ok-number.number ∷ [] = search rules in
    let step = numbers_step c.args.start c.loop-at.at c.args.count c.loop-at-test.true in
    rw (grown, append_assoc, c.in_ok-number.ensures, step) c.loop-at.invariant
