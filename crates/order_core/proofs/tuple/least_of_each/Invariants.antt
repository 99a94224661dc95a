use Rattle.std.proofs.Common.{◌++◌, drop}
use Rattle.order_core.specs.Tuple.{AreAllLeast}
use Rattle.order_core.proofs.tuple.least_of_each.Given as goal

-- With lists for the parts that are left, there is one for each part.
abbrev pub invariant-loop-part : goal.invariant-loop-part
invariant-loop-part g l =
    (rest : _) → AreAllLeast g.O.Order.is_value g.O.Order.leq (drop l.part-index l.parts) rest → AreAllLeast g.O.Order.is_value g.O.Order.leq l.parts (l.made.items ++ rest)
