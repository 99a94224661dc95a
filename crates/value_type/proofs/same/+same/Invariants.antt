use Rattle.std.proofs.Common.{◌≡◌, drop, map}
use Rattle.order_core.specs.Tuple.{are_values}
use Rattle.value_type.specs.SameForm as spec
use Rattle.value_type.proofs.same.+same.Given as goal

-- What is left decides.
abbrev pub invariant-same_kinds-loop-at : goal.invariant-same_kinds-loop-at
invariant-same_kinds-loop-at l = are_values (map spec.same_kind l.xs) l.ys ≡ are_values (map spec.same_kind (drop l.at l.xs)) (drop l.at l.ys)
