use Rattle.std.proofs.Common.{◌≡◌, ◌++◌}
use Rattle.compiled_term.specs.Joined.{pairs}
use Rattle.term_compile.proofs.JoinLemmas.{waiting_list}
use Rattle.term_compile.proofs.joining.pairs.Given as goal

-- The pairs so far, followed by those of the term that waits and the terms left, are all of them.
abbrev pub invariant-loop-term : goal.invariant-loop-term
invariant-loop-term l = pairs l.fn.terms.items ≡ l.made.items ++ pairs (waiting_list l.waiting ++ l.term-iterator.rest.items)
