use Rattle.std.proofs.Common.{◌≡◌, ◌++◌, length, drop}
use Rattle.cut_plan.specs.CutReads as spec
use Rattle.cut_plan.proofs.signals.late_reads.Given as goal

-- The cut reads so far, followed by those of the parts left, are all of them.
abbrev pub invariant-loop-reader : goal.invariant-loop-reader
invariant-loop-reader l = record {
  same : length l.table ≡ length l.places;
  decides : spec.late_reads l.places l.table l.places ≡ l.late.items ++ spec.late_reads l.places (drop l.reader l.table) (drop l.reader l.places);
}
