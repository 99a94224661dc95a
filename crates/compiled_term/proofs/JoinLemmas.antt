-- Joined terms lead where the terms lead one after the other.
use Rattle.std.proofs.Common.{refl, subst, arith}
use Rattle.std.specs.Prelude.{◌≡◌, ◌+◌, ◌<◌, ◌≤◌, ℕ, zero, suc, List, [], ◌∷◌, length}
use Rattle.design_term.specs.declared.term.Term.TheVariants as term
use Rattle.design_term.specs.declared.term.Term.{Term}
use Rattle.compiled_term.specs.Joined.{pairs, joined_in, joined}

-- From x to y, by the terms one after the other.
abbrev pub Through : {X : Type 0} → (Term → X → X → Type 0) → List Term → X → X → Type 0
Through R [] x y = x ≡ y
Through {X = X} R (a ∷ rest) x y = (middle : X) × R a x middle × Through R rest middle y

-- Where a series leads from x to y as its two terms do one after the other:
module _ {X : Type 0} (R : Term → X → X → Type 0) (apart : (a b : Term) (x y : X) → R (term.Series a b) x y → (middle : X) × R a x middle × R b middle y)
    (together : (a b : Term) (x y z : X) → R a x y → R b y z → R (term.Series a b) x z) where
  paired : (terms : List Term) (x y : X) → Through R terms x y → Through R (pairs terms) x y
  paired [] x y h = h
  paired (a ∷ []) x y h = h
  paired (a ∷ b ∷ rest) x y h = (h.2.0, together a b x h.0 h.2.0 h.1 h.2.1, paired rest h.2.0 y h.2.2)

  parted : (terms : List Term) (x y : X) → Through R (pairs terms) x y → Through R terms x y
  parted [] x y h = h
  parted (a ∷ []) x y h = h
  parted (a ∷ b ∷ rest) x y h = let r = apart a b x h.0 h.1 in (r.0, r.1, (h.0, r.2, parted rest h.0 y h.2))

  fewer : (terms : List Term) (n : ℕ) → length terms ≤ suc n + 1 → length (pairs terms) ≤ n + 1
  fewer [] n h = omega arith
  fewer (a ∷ []) n h = omega arith
  fewer (a ∷ b ∷ rest) zero h = none rest h
    where
      none : (rest : List Term) → length (a ∷ b ∷ rest) ≤ suc zero + 1 → suc (length (pairs rest)) ≤ zero + 1
      none [] h = omega arith
      none (c ∷ rest) h = absurd (omega (arith, h))
  fewer (a ∷ b ∷ rest) (suc n) h = let r = fewer rest n (omega (arith, h)) in omega (arith, r)

  still_some : (terms : List Term) → 0 < length terms → 0 < length (pairs terms)
  still_some [] h = h
  still_some (a ∷ []) h = h
  still_some (a ∷ b ∷ rest) h = omega arith

  joined_from : (n : ℕ) (terms : List Term) (x y : X) → 0 < length terms → length terms ≤ n + 1 → Through R terms x y → R (joined_in n terms) x y
  joined_from zero [] x y some few h = absurd (omega (arith, some))
  joined_from zero (a ∷ []) x y some few h = subst (R a x) h.2 h.1
  joined_from zero (a ∷ b ∷ rest) x y some few h = absurd (omega (arith, few))
  joined_from (suc n) terms x y some few h = joined_from n (pairs terms) x y (still_some terms some) (fewer terms n few) (paired terms x y h)

  joined_to : (n : ℕ) (terms : List Term) (x y : X) → 0 < length terms → length terms ≤ n + 1 → R (joined_in n terms) x y → Through R terms x y
  joined_to zero [] x y some few h = absurd (omega (arith, some))
  joined_to zero (a ∷ []) x y some few h = (y, h, refl)
  joined_to zero (a ∷ b ∷ rest) x y some few h = absurd (omega (arith, few))
  joined_to (suc n) terms x y some few h = parted terms x y (joined_to n (pairs terms) x y (still_some terms some) (fewer terms n few) h)

  pub as_one : (terms : List Term) (x y : X) → 0 < length terms → Through R terms x y → R (joined terms) x y
  as_one terms x y some h = joined_from (length terms) terms x y some (omega arith) h

  pub as_each : (terms : List Term) (x y : X) → 0 < length terms → R (joined terms) x y → Through R terms x y
  as_each terms x y some h = joined_to (length terms) terms x y some (omega arith) h
