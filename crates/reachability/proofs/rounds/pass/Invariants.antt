use Rattle.std.proofs.Common.{◌≡◌, ◌++◌, map, take, drop}
use Rattle.reachability.specs.Rounds.{passed}
use Rattle.reachability.proofs.rounds.pass.Given as goal

-- The rows so far are passed on.
abbrev pub invariant-loop-row : goal.invariant-loop-row
invariant-loop-row l = l.rows ≡ map (passed l.through l.beyond) (take l.row-index l.fn.rows) ++ drop l.row-index l.fn.rows
