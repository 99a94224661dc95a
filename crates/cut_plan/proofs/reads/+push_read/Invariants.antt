use Rattle.std.proofs.Common.{◌≡◌, ◌++◌, take}
use Rattle.std.specs.List.{flat_map}
use Rattle.cut_plan.specs.Reads.{read_by}
use Rattle.cut_plan.proofs.reads.+push_read.Given as goal

-- What the expressions so far read is added.
abbrev pub invariant-push_each-loop-part : goal.invariant-push_each-loop-part
invariant-push_each-loop-part l = l.into.items ≡ l.initial.into.items ++ flat_map read_by (take l.part-index l.parts)
