use Rattle.std.proofs.Common.{◌≡◌}
use Rattle.std.specs.List.{flat_map}
use Rattle.order_core.specs.Tuple.{with_each}
use Rattle.order_core.proofs.choices.extended.Given as goal

-- The tuples so far are put.
abbrev pub invariant-loop-tuple : goal.invariant-loop-tuple
invariant-loop-tuple g l = l.made.items ≡ flat_map (with_each l.items) l.yielded
