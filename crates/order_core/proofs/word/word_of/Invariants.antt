use Rattle.std.proofs.Common.{◌≡◌, ℕ, take}
use Rattle.std.specs.Prelude.{nat_eq}
use Rattle.std.specs.List.{list_any}
use Rattle.order_core.specs.Word.{is_in_word}
use Rattle.order_core.proofs.word.word_of.Given as goal

-- The word holds the numbers so far.
abbrev pub invariant-loop-number : goal.invariant-loop-number
invariant-loop-number l = (x : ℕ) → is_in_word l.word x ≡ list_any (nat_eq x) (take l.number-index l.numbers)
