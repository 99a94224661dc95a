-- Where states can rise only so often, longer chains have no other ends.
use Rattle.std.specs.Prelude.{◌≡◌, ◌≤◌, ◌<◌, ℕ, zero, suc, Bool, IsTrue, ◌⊎◌}
use Rattle.std.proofs.Common.{arith, inl, inr}
use Rattle.std.proofs.lemmas.Bool.{cases_lt}
use Rattle.order_core.specs.ChainLaws.{ends_are_states}
use Rattle.order_core.specs.Chains.{EndsChain, IsSteady}

-- A rank of the states, at most the height. It rises with the states, and a step that leaves it as it was can be made in two.
pub record IsRank {A : Type 0} (is_state : A → Bool) (leq : A → A → Bool) (Step : A → A → Type 0) (height : ℕ) (rank : A → ℕ) : Type 0 where
  pub within : (x : A) → IsTrue (is_state x) → rank x ≤ height
  pub rises : (x y : A) → IsTrue (is_state x) → IsTrue (is_state y) → IsTrue (leq x y) → rank x ≤ rank y
  pub halves : (x y : A) → IsTrue (is_state x) → IsTrue (is_state y) → IsTrue (leq x y) → rank x ≡ rank y → Step x y
      → (between : A) × IsTrue (leq x between) × Step x between × IsTrue (leq between y) × Step between y

module _ {A : Type 0} (is_state : A → Bool) (leq : A → A → Bool) (Step : A → A → Type 0) (height : ℕ) (rank : A → ℕ) (states : (x y : A) → IsTrue (is_state x) → Step x y → IsTrue (is_state y))
    (ranked : IsRank is_state leq Step height rank) where
  -- Each step of a chain has raised the rank, or its end ends a longer chain.
  ranks_or_longer : (k : ℕ) (s : A) → EndsChain is_state leq Step k s → (k ≤ rank s) ⊎ EndsChain is_state leq Step (suc k) s
  ranks_or_longer zero s h = inl (omega arith)
  ranks_or_longer (suc k) s h = at_before (ranks_or_longer k h.0 h.1)
    where
      before_is : IsTrue (is_state h.0)
      before_is = ends_are_states is_state leq Step states k h.0 h.1

      s_is : IsTrue (is_state s)
      s_is = states h.0 s before_is h.3

      rise : rank h.0 ≤ rank s
      rise = ranked.rises h.0 s before_is s_is h.2

      last : k ≤ rank h.0 → (rank h.0 < rank s) ⊎ (rank s ≤ rank h.0) → (suc k ≤ rank s) ⊎ EndsChain is_state leq Step (suc (suc k)) s
      last ranks (inl rose) = inl (omega arith)
      last ranks (inr stayed) =
          let same : rank h.0 ≡ rank s = omega (arith, rise) in
          let two = ranked.halves h.0 s before_is s_is h.2 same h.3 in
          inr (two.0, (h.0, h.1, two.1, two.2), two.3, two.4)

      at_before : (k ≤ rank h.0) ⊎ EndsChain is_state leq Step (suc k) h.0 → (suc k ≤ rank s) ⊎ EndsChain is_state leq Step (suc (suc k)) s
      at_before (inl ranks) = last ranks (cases_lt (rank h.0) (rank s))
      at_before (inr longer) = inr (h.0, longer, h.2, h.3)

  -- After more steps than the height chains gain no ends.
  pub steady_above : (k : ℕ) → height < k → IsSteady is_state leq Step k
  steady_above k high s h = longer (ranks_or_longer k s h)
    where
      longer : (k ≤ rank s) ⊎ EndsChain is_state leq Step (suc k) s → EndsChain is_state leq Step (suc k) s
      longer (inl ranks) = let low = ranked.within s (ends_are_states is_state leq Step states k s h) in absurd (omega arith)
      longer (inr ends) = ends
