use Rattle.std.proofs.Common.{◌≡◌, ◌++◌, drop}
use Rattle.term_compile.specs.Given.{covers_in}
use Rattle.term_compile.proofs.over_wires.push_covers.Given as goal

-- The constraints of the signals so far, followed by those of the signals left, are all of them.
abbrev pub invariant-loop-at : goal.invariant-loop-at
invariant-loop-at l = l.initial.into.items ++ covers_in 0 l.signals ≡ l.into.items ++ covers_in l.at (drop l.at l.signals)
