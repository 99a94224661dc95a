use Rattle.std.proofs.Common.{take}
use Rattle.reachability.specs.Rounds.{AreDirect}
use Rattle.reachability.proofs.rounds.direct_rows.Given as goal

-- The rows have what the pairs so far lead to.
abbrev pub invariant-loop-a : goal.invariant-loop-a
invariant-loop-a l = AreDirect l.n (take l.a-index l.pairs) l.rows.items
