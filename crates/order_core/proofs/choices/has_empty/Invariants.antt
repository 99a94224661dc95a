use Rattle.std.proofs.Common.{◌≡◌, drop}
use Rattle.order_core.specs.Tuple.{has_empty}
use Rattle.order_core.proofs.choices.has_empty.Given as goal

-- What is left decides.
abbrev pub invariant-loop-list : goal.invariant-loop-list
invariant-loop-list g l = has_empty l.lists ≡ has_empty (drop l.list-index l.lists)
