-- Passes of pairing.
use Rattle.std.proofs.Common.{refl, sym, arith, ◌∙◌}
use Rattle.std.specs.Prelude.{◌≡◌, ◌+◌, ◌<◌, ◌≤◌, ℕ, zero, suc, List, [], ◌∷◌, length, Option, Some, None}
use Rattle.compiled_term.specs.Joined.{pairs, joined_in, joined}
use Rattle.design_term.specs.declared.term.Term.TheVariants as term
use Rattle.design_term.specs.declared.term.Term.{Term}

pub shorter : (terms : List Term) → 1 < length terms → length (pairs terms) < length terms
shorter [] h = absurd (omega (arith, h))
shorter (a ∷ []) h = absurd (omega (arith, h))
shorter (a ∷ b ∷ rest) h = let r = no_longer rest in omega (arith, r)
  where
    no_longer : (terms : List Term) → length (pairs terms) ≤ length terms
    no_longer [] = omega arith
    no_longer (a ∷ []) = omega arith
    no_longer (a ∷ b ∷ rest) = let r = no_longer rest in omega (arith, r)

none_stays : (n : ℕ) → joined_in n [] ≡ term.Alt []
none_stays zero = refl
none_stays (suc n) = none_stays n

one_stays : (n : ℕ) (a : Term) → joined_in n (a ∷ []) ≡ a
one_stays zero a = refl
one_stays (suc n) a = one_stays n a

-- More passes than are needed change nothing.
enough : (n m : ℕ) (terms : List Term) → length terms ≤ n + 1 → length terms ≤ m + 1 → joined_in n terms ≡ joined_in m terms
enough n m [] h k = none_stays n ∙ sym (none_stays m)
enough n m (a ∷ []) h k = one_stays n a ∙ sym (one_stays m a)
enough zero m (a ∷ b ∷ rest) h k = absurd (omega (arith, h))
enough (suc n) zero (a ∷ b ∷ rest) h k = absurd (omega (arith, k))
enough (suc n) (suc m) (a ∷ b ∷ rest) h k =
    let less = shorter (a ∷ b ∷ rest) (omega arith) in
    enough n m (pairs (a ∷ b ∷ rest)) (omega (arith, h, less)) (omega (arith, k, less))

pub one_pass : (terms : List Term) → 1 < length terms → joined terms ≡ joined (pairs terms)
one_pass [] h = absurd (omega (arith, h))
one_pass (a ∷ rest) h =
    let less = shorter (a ∷ rest) h in
    enough (length rest) (length (pairs (a ∷ rest))) (pairs (a ∷ rest)) (omega (arith, less)) (omega arith)

-- the term that waits, if there is one
abbrev pub waiting_list : Option Term → List Term
waiting_list (Some a) = a ∷ []
waiting_list None = []
