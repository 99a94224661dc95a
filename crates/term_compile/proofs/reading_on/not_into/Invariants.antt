use Rattle.std.proofs.Common.{◌≡◌, ◌++◌}
use Rattle.compiled_term.specs.Stages.{not_into}
use Rattle.term_compile.proofs.reading_on.not_into.Given as goal

-- The others so far, followed by those left, are all of them.
abbrev pub invariant-loop-constraint : goal.invariant-loop-constraint
invariant-loop-constraint l = not_into l.part l.fn.waiting.items ≡ l.others.items ++ not_into l.part l.constraint-iterator.rest.items
