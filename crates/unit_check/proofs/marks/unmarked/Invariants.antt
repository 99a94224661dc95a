use Rattle.std.proofs.Common.{◌≡◌, [], replicate}
use Rattle.unit_check.proofs.marks.unmarked.Given as goal

-- So many are made.
abbrev pub invariant-loop : goal.invariant-loop
invariant-loop l = l.marks.items ≡ replicate l.counter []
