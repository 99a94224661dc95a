use Rattle.std.proofs.Common.{◌++◌, drop}
use Rattle.order_core.specs.Tuple.{AreAllLeast}
use Rattle.value_type.specs.Fits.{fits}
use Rattle.value_type.specs.Leq.{leq}
use Rattle.value_type.proofs.least.+least.Given as goal

-- With lists for the types that are left, there is one for each type.
abbrev pub invariant-least_of_each-loop-kind : goal.invariant-least_of_each-loop-kind
invariant-least_of_each-loop-kind l =
    (rest : _) → AreAllLeast (fits l.types) (leq l.types) (drop l.kind-index l.kinds) rest → AreAllLeast (fits l.types) (leq l.types) l.kinds (l.made.items ++ rest)
