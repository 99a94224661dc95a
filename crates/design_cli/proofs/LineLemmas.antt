-- How texts of five pieces are put together.
use Rattle.std.proofs.Common.{◌≡◌, ◌∙◌, ◌++◌, append_assoc, sym, ℕ, List}

pub from_left : (a b c d e : List ℕ) → a ++ (b ++ (c ++ (d ++ e))) ≡ (((a ++ b) ++ c) ++ d) ++ e
from_left a b c d e = sym (append_assoc a b (c ++ (d ++ e))) ∙ sym (append_assoc (a ++ b) c (d ++ e)) ∙ sym (append_assoc ((a ++ b) ++ c) d e)
