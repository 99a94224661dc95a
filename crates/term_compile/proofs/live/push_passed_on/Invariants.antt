use Rattle.std.proofs.Common.{◌≡◌, ◌++◌, drop, filter}
use Rattle.compiled_term.specs.Stages.{passed_on}
use Rattle.term_compile.specs.Marks.{value_stays}
use Rattle.term_compile.proofs.live.push_passed_on.Given as goal

-- The wires so far that stay, followed by those left, are all of them.
abbrev pub invariant-loop-at : goal.invariant-loop-at
invariant-loop-at l = l.initial.into.items ++ filter (value_stays l.start l.marks) (passed_on 0 l.wires)
    ≡ l.into.items ++ filter (value_stays l.start l.marks) (passed_on l.at (drop l.at l.wires))
