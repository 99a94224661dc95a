use Rattle.std.proofs.Common.{◌≡◌, replicate}
use Rattle.reachability.proofs.rounds.empty_rows.Given as goal

-- The rows so far are empty.
abbrev pub invariant-loop : goal.invariant-loop
invariant-loop l = l.rows.items ≡ replicate l.counter (replicate l.width 0)
