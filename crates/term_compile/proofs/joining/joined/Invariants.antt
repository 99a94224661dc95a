use Rattle.std.proofs.Common.{◌≡◌, length}
use Rattle.compiled_term.specs.Joined.{joined}
use Rattle.term_compile.proofs.joining.joined.Given as goal

-- What is left has the same term.
abbrev pub invariant-loop-left : goal.invariant-loop-left
invariant-loop-left l = joined l.fn.terms.items ≡ joined l.left.items

abbrev pub decreases-loop-left : goal.decreases-loop-left
decreases-loop-left l = length l.left.items
