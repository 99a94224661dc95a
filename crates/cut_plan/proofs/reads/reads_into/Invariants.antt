use Rattle.std.proofs.Common.{◌≡◌, ◌++◌, drop}
use Rattle.cut_plan.specs.Reads.{reads_into}
use Rattle.cut_plan.proofs.reads.reads_into.Given as goal

-- What is read so far, followed by what the constraints left read, is all of it.
abbrev pub invariant-loop-constraint : goal.invariant-loop-constraint
invariant-loop-constraint l = reads_into l.constraints l.part ≡ l.reads.items ++ reads_into (drop l.constraint-index l.constraints) l.part
