use Rattle.std.proofs.Common.{◌≡◌, ◌++◌, take}
use Rattle.order_core.specs.Tuple.{with_each}
use Rattle.order_core.proofs.choices.put_each.Given as goal

-- The tuple is put with the items so far.
abbrev pub invariant-loop-item : goal.invariant-loop-item
invariant-loop-item g l = l.made.items ≡ l.initial.made.items ++ with_each (take l.item-index l.others) l.fn.tuple
