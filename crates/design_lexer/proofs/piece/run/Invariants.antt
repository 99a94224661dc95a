use Rattle.std.proofs.Common.{◌≡◌, ◌+◌, drop}
use Rattle.design_lexer.specs.Scan.{run, goes_on}
use Rattle.design_lexer.proofs.piece.run.Given as goal

abbrev pub invariant-loop-at : goal.invariant-loop-at
invariant-loop-at l = l.at + run (goes_on l.start) (drop l.at l.bytes) ≡ run (goes_on l.start) l.bytes
