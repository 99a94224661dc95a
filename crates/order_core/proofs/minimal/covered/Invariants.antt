use Rattle.std.proofs.Common.{◌<◌, ◌↔◌, ℕ, IsTrue}
use Rattle.order_core.specs.MinimalElements.{IsCovered}
use Rattle.order_core.specs.Word.{is_in_word}
use Rattle.order_core.proofs.minimal.covered.Given as goal

-- What the rows so far cover is in.
abbrev pub invariant-loop-at : goal.invariant-loop-at
invariant-loop-at l = (x : ℕ) → x < 64 → IsTrue (is_in_word l.covered x) ↔ IsCovered l.at l.table l.word x
