-- What closing pairs answers.
use Rattle.std.specs.Prelude.{ℕ, List, Result, Ok, Err}
use Rattle.order_core.specs.declared.finite.FiniteOrder.{FiniteOrder}
use Rattle.order_core.specs.declared.finite.OrderFault.{OrderFault}
use Rattle.order_core.specs.declared.finite.OrderFault.TheVariants.{Cycle, Memory}
use Rattle.order_core.specs.Walk.{IsClosure, IsFirstCycle}

-- The order is the closure of the pairs, or the first cycle is named, or memory was refused.
abbrev pub Closes : ℕ → List (ℕ × ℕ) → Result FiniteOrder OrderFault → Type 0
Closes n pairs (Ok order) = IsClosure n pairs order.table
Closes n pairs (Err (Cycle a b)) = IsFirstCycle n pairs a b
Closes n pairs (Err Memory) = Unit {0}
