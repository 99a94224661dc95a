-- What holds of the ends of chains.
use Rattle.std.proofs.Common.{subst}
use Rattle.std.specs.Prelude.{◌+◌, ℕ, zero, suc, Bool}
use Rattle.order_core.specs.ChainLaws.{none_more, one_more}
use Rattle.order_core.specs.Chains.{EndsChain, IsSteady}

module _ {A : Type 0} (is_state : A → Bool) (leq : A → A → Bool) (Step : A → A → Type 0) where
  -- Once steady, always steady.
  pub steady_later : (more k : ℕ) → IsSteady is_state leq Step k → IsSteady is_state leq Step (more + k)
  steady_later zero k steady = subst (λ (n : ℕ). IsSteady is_state leq Step n) (none_more k) steady
  steady_later (suc more) k steady =
      let before = steady_later more k steady in
      subst (λ (n : ℕ). IsSteady is_state leq Step n) (one_more more k) (λ s h. (h.0, before h.0 h.1, h.2, h.3))

  -- Once steady, all longer chains have the same ends.
  pub steady_for_ever : (more k : ℕ) (s : A) → IsSteady is_state leq Step k → EndsChain is_state leq Step k s → EndsChain is_state leq Step (more + k) s
  steady_for_ever zero k s steady h = subst (λ (n : ℕ). EndsChain is_state leq Step n s) (none_more k) h
  steady_for_ever (suc more) k s steady h =
      subst (λ (n : ℕ). EndsChain is_state leq Step n s) (one_more more k) (steady_later more k steady s (steady_for_ever more k s steady h))
