use Rattle.std.proofs.Common.{◌<◌, ℕ, length}
use Rattle.order_core.specs.Finite.{is_below}
use Rattle.order_core.specs.Mutual.{AreMutual}
use Rattle.order_core.proofs.closing.first_mutual.Given as goal

-- No element so far has a partner.
abbrev pub invariant-loop-a : goal.invariant-loop-a
invariant-loop-a l = (x : ℕ) → x < l.a → (y : ℕ) → x < y → y < length l.table → AreMutual (is_below l.table) x y → ⊥
