use Rattle.std.proofs.Common.{◌<◌, ℕ}
use Rattle.order_core.specs.Finite.{is_below}
use Rattle.order_core.specs.Mutual.{AreMutual}
use Rattle.order_core.proofs.closing.first_partner.Given as goal

-- No element so far is a partner.
abbrev pub invariant-loop-b : goal.invariant-loop-b
invariant-loop-b l = (y : ℕ) → y < l.b → l.a < y → AreMutual (is_below l.table) l.a y → ⊥
