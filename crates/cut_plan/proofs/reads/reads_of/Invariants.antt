use Rattle.std.proofs.Common.{◌≡◌, ◌++◌, ◌-◌}
use Rattle.cut_plan.specs.Reads.{table_from}
use Rattle.cut_plan.proofs.reads.reads_of.Given as goal

-- What the parts so far read, followed by what the parts left read, is the table.
abbrev pub invariant-loop-part : goal.invariant-loop-part
invariant-loop-part l = table_from l.constraints 0 l.count ≡ l.table.items ++ table_from l.constraints l.part (l.count - l.part)
