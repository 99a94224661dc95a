use Rattle.std.proofs.Common.{◌≡◌, take}
use Rattle.catalogue_solve.specs.Enough.{required_by}
use Rattle.catalogue_solve.proofs.minimal.enough.Given as goal

-- what the rows so far require that provide enough
abbrev pub invariant-loop-row : goal.invariant-loop-row
invariant-loop-row l = l.found.items ≡ required_by l.types l.provides l.f (take l.row-index l.rows)
