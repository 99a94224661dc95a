use Rattle.std.proofs.Common.{take}
use Rattle.order_core.specs.Walk.{IsClosure}
use Rattle.order_core.proofs.closing.closure.Given as goal

-- The table has the walks through the pairs so far.
abbrev pub invariant-loop-a : goal.invariant-loop-a
invariant-loop-a l = IsClosure l.n (take l.a-index l.pairs) l.table.items
