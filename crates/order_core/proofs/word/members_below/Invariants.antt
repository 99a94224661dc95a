use Rattle.std.proofs.Common.{◌≡◌}
use Rattle.order_core.specs.Word.{members_below}
use Rattle.order_core.proofs.word.members_below.Given as goal

-- The numbers so far are put.
abbrev pub invariant-loop-number : goal.invariant-loop-number
invariant-loop-number l = l.made.items ≡ members_below l.number l.word
