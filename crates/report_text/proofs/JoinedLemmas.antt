-- Texts joined one after the other: what is left of them at each step.
use Rattle.std.proofs.Common.{◌≡◌, refl, ℕ, zero, suc, ◌+◌, List, [], ◌∷◌, ◌++◌, add-one, append_assoc, arith}
use Rattle.std.proofs.lemmas.Grind.{common_steps}
use Rattle.std.specs.Prelude.{codes}
use Rattle.report_text.specs.Texts.{joined, others, separator}

-- how the texts from this number on are joined to those before
pub left : ℕ → List (List ℕ) → List ℕ
left zero texts = joined texts
left (suc at) texts = others texts

pub left_all : (texts : List (List ℕ)) → left 0 texts ≡ joined texts
unfolding left
left_all texts = refl

pub left_none : (at : ℕ) → left at [] ≡ []
unfolding left
left_none zero = refl
left_none (suc at) = refl

later : (at : ℕ) → separator (suc at) ≡ codes ", "
later at = grind arith

pub left_next : (at : ℕ) (text : List ℕ) (texts : List (List ℕ)) → left at (text ∷ texts) ≡ separator at ++ text ++ left (at + 1) texts
unfolding left
left_next zero text texts = refl
left_next (suc at) text texts = rw (later at, add-one (suc at)) refl

-- When a text was added after what stands before it, the texts after it are left.
pub one_added : (at : ℕ) (text : List ℕ) (texts : List (List ℕ)) (before separated after all : List ℕ)
    → separated ≡ before ++ separator at → after ≡ separated ++ text → before ++ left at (text ∷ texts) ≡ all → after ++ left (at + 1) texts ≡ all
one_added at text texts before separated after all e f h = grind (arith, append_assoc, left_next)

-- what loops that join texts need
pub ruleset joining = (common_steps, left_all, left_none, left_next)
