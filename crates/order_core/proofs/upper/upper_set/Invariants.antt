use Rattle.std.proofs.Common.{◌≡◌, ℕ, take}
use Rattle.order_core.specs.Upper.{is_in}
use Rattle.order_core.specs.Word.{is_in_word}
use Rattle.order_core.proofs.upper.upper_set.Given as goal

-- The word holds what is above a member so far.
abbrev pub invariant-loop-member : goal.invariant-loop-member
invariant-loop-member l = (x : ℕ) → is_in_word l.word x ≡ is_in l.base.table (take l.member-index l.members) x
