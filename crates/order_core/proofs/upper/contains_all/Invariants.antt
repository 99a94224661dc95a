use Rattle.std.proofs.Common.{◌≡◌, drop}
use Rattle.std.specs.List.{list_all}
use Rattle.order_core.specs.Upper.{is_in}
use Rattle.order_core.proofs.upper.contains_all.Given as goal

-- What is left decides.
abbrev pub invariant-loop-element : goal.invariant-loop-element
invariant-loop-element l = list_all (is_in l.base.table l.members) l.elements ≡ list_all (is_in l.base.table l.members) (drop l.element-index l.elements)
