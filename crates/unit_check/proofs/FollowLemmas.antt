-- Where following leads: it stays within bounds, and where each step leads to a lesser rank, the end from a place is the end from the next one.
use Rattle.std.proofs.Common.{◌≡◌, ◌∙◌, ◌<◌, ◌≤◌, arith, refl, sym, ap, ℕ, zero, suc}
use Rattle.std.specs.Prelude.{Option, Some, None}
use Rattle.unit_check.specs.Follow.{Falls, follow, go_to}

-- Where each step from below n leads below n, so do many.
pub follow-within : (next : ℕ → Option ℕ) (n : ℕ) → ((i j : ℕ) → next i ≡ Some j → j < n) → (steps i : ℕ) → i < n → follow next steps i < n
follow-within next n below zero i l = l
follow-within next n below (suc steps) i l = at (λ j k. follow-within next n below steps j k) (next i) refl
  where
    at : ((j : ℕ) → j < n → follow next steps j < n) → (o : Option ℕ) → next i ≡ o → go_to (follow next steps) i o < n
    at go None e = l
    at go (Some j) e = go j (below i j e)

-- Where there is no next place, there is nothing to follow.
pub follow-none : (next : ℕ → Option ℕ) (steps i : ℕ) → next i ≡ None → follow next steps i ≡ i
follow-none next zero i e = refl
follow-none next (suc steps) i e = ap (go_to (follow next steps) i) e

module _ (next : ℕ → Option ℕ) (rank : ℕ → ℕ) (falls : Falls next rank) where
  -- With as many steps as the rank says, nothing is left to follow.
  pub follow-ends : (n i : ℕ) → rank i ≤ n → next (follow next n i) ≡ None
  follow-ends zero i h = at (next i) refl
    where
      at : (o : Option ℕ) → next i ≡ o → next i ≡ None
      at None e = e
      at (Some j) e = let f = falls i j e in absurd (omega (arith, f, h))
  follow-ends (suc n) i h = at (λ j l. follow-ends n j l) (next i) refl
    where
      at : ((j : ℕ) → rank j ≤ n → next (follow next n j) ≡ None) → (o : Option ℕ) → next i ≡ o → next (go_to (follow next n) i o) ≡ None
      at go None e = e
      at go (Some j) e = let f = falls i j e in go j (omega (arith, f, h))

  -- More steps lead no further.
  pub follow-more : (n i : ℕ) → rank i ≤ n → follow next (suc n) i ≡ follow next n i
  follow-more zero i h = at (next i) refl
    where
      at : (o : Option ℕ) → next i ≡ o → go_to (follow next zero) i o ≡ i
      at None e = refl
      at (Some j) e = let f = falls i j e in absurd (omega (arith, f, h))
  follow-more (suc n) i h = at (λ j l. follow-more n j l) (next i) refl
    where
      at : ((j : ℕ) → rank j ≤ n → follow next (suc n) j ≡ follow next n j) → (o : Option ℕ) → next i ≡ o → go_to (follow next (suc n)) i o ≡ go_to (follow next n) i o
      at go None e = refl
      at go (Some j) e = let f = falls i j e in go j (omega (arith, f, h))

  -- So the end from a place is the end from the next one.
  pub follow-next : (n i j : ℕ) → rank i ≤ n → next i ≡ Some j → follow next n i ≡ follow next n j
  follow-next n i j h e = sym (follow-more n i h) ∙ ap (go_to (follow next n) i) e
