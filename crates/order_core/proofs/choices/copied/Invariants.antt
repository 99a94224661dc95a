use Rattle.std.proofs.Common.{◌≡◌, length, drop, take, map, IsTrue}
use Rattle.order_core.specs.Tuple.{are_values}
use Rattle.order_core.proofs.choices.copied.Given as goal

-- The items so far are copied, and the others are values.
abbrev pub invariant-loop-at : goal.invariant-loop-at
invariant-loop-at g l = (length l.parts ≡ length l.items) × (l.made.items ≡ take l.at l.items) × IsTrue (are_values (map g.C.Copier.can_copy (drop l.at l.parts)) (drop l.at l.items))
