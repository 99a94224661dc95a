use Rattle.std.proofs.Common.{◌≡◌, drop}
use Rattle.std.specs.List.{list_any}
use Rattle.order_core.specs.Finite.{is_below}
use Rattle.order_core.proofs.upper.contains.Given as goal

-- What is left decides.
abbrev pub invariant-loop-member : goal.invariant-loop-member
invariant-loop-member l = list_any (λ x. is_below l.base.table x l.element) l.members ≡ list_any (λ x. is_below l.base.table x l.element) (drop l.member-index l.members)
