use Rattle.std.proofs.Common.{◌≡◌, ◌++◌, ◌+◌, ◌-◌}
use Rattle.design_model.specs.Evaluation.{numbers_from}
use Rattle.term_compile.proofs.numbers.numbers_from.Given as goal

-- The numbers so far, followed by those left, are all of them.
abbrev pub invariant-loop-at : goal.invariant-loop-at
invariant-loop-at l = numbers_from l.start l.count ≡ l.made.items ++ numbers_from (l.start + l.at) (l.count - l.at)
