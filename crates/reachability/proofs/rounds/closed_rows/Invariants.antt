use Rattle.reachability.proofs.RoundLemmas.{AreVia}
use Rattle.reachability.proofs.rounds.closed_rows.Given as goal

-- The rows have what chains with inner numbers so far lead to.
abbrev pub invariant-loop-through : goal.invariant-loop-through
invariant-loop-through l = AreVia l.n l.pairs l.through l.rows.items
