use Rattle.std.proofs.Common.{◌≡◌, ◌<◌, ◌^◌, ℕ, length, get_or}
use Rattle.order_core.proofs.closing.equalities.Given as goal

-- Each row so far has one bit.
abbrev pub invariant-loop-element : goal.invariant-loop-element
invariant-loop-element l = (length l.table.items ≡ l.element) × ((k : ℕ) → k < l.element → get_or l.table.items k 0 ≡ 2 ^ k)
