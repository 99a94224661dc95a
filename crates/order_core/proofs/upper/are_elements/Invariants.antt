use Rattle.std.proofs.Common.{◌≡◌, drop}
use Rattle.std.specs.List.{list_all}
use Rattle.order_core.specs.Finite.{is_element}
use Rattle.order_core.proofs.upper.are_elements.Given as goal

-- What is left decides.
abbrev pub invariant-loop-number : goal.invariant-loop-number
invariant-loop-number l = list_all (is_element l.base.table) l.numbers ≡ list_all (is_element l.base.table) (drop l.number-index l.numbers)
