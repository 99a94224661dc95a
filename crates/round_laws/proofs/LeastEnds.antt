-- The least ends of a net's chains.
use Rattle.std.specs.Prelude.{◌≡◌, ◌+◌, ℕ, suc, IsTrue, ◌⊎◌}
use Rattle.std.proofs.Common.{sym, subst, arith, inl, inr}
use Rattle.order_core.specs.ChainLaws.{ends_are_states}
use Rattle.order_core.specs.Chains.{IsSteady}
use Rattle.value_type.specs.declared.poset.Types.{Types}
use Rattle.value_type.specs.Fits.{row_fits}
use Rattle.value_type.specs.PortKinds.{port_kinds}
use Rattle.design_model.specs.Rows.{Row}
use Rattle.design_model.specs.Steady.{NetOf, wiring, design_of}
use Rattle.design_model.specs.SteadyLaws.{StepsIn, EndsIn, EndsLeastIn}
use Rattle.design_model.specs.Step.{is_state, state_leq, state_kinds}
use Rattle.design_model.specs.Typed.{IsTyped}
use Rattle.model_laws.specs.NetLaws.{net_ends_rise}
use Rattle.model_laws.specs.StepLaws.{states_in_order}
use Rattle.round_laws.specs.Decided.{Decided}
use Rattle.round_laws.proofs.DecidedRounds.{decided_net_end}
use Rattle.round_laws.proofs.Deciding.{decided_both, decided_not}
use Rattle.round_laws.proofs.FiniteKinds.{finite_rows}
use Rattle.round_laws.proofs.FiniteValues.{decided_some, minimal_under}

module _ (t : Types) (n : ℕ) (net : NetOf) (f : Row) where
  pub end_is_state : (k : ℕ) (s : Row) → EndsIn t n net f k s → IsTrue (is_state t (wiring net) s)
  end_is_state = ends_are_states (is_state t (wiring net)) (state_leq t (wiring net)) (StepsIn t n net f) (λ x y v by. by.1.after_is)

  pub least_end : (k : ℕ) (s : Row) → EndsIn t n net f k s → (low : Row) × EndsLeastIn t n net f k low × IsTrue (state_leq t (wiring net) low s)
  least_end k = minimal_under (is_state t (wiring net)) (state_leq t (wiring net)) (EndsIn t n net f k) (states_in_order t (wiring net)) (finite_rows t (state_kinds (wiring net))) (end_is_state k) (decided_net_end t n net f k)

  -- It ends a chain of k steps and none of one step more.
  abbrev Climbs : ℕ → Row → Type 0
  Climbs k s = EndsIn t n net f k s × (EndsIn t n net f (suc k) s → ⊥)

  module _ (typed : IsTyped t (design_of net)) (f_fits : IsTrue (row_fits t (port_kinds net.provides) f)) where
    rises : (k : ℕ) (low s : Row) → EndsIn t n net f (suc k) low → IsTrue (is_state t (wiring net) s) → IsTrue (state_leq t (wiring net) low s) → EndsIn t n net f (suc k) s
    rises k low s h s_is l =
        let one_more : k + 1 ≡ suc k = omega arith in
        subst (λ (m : ℕ). EndsIn t n net f m s) one_more (net_ends_rise t n net f typed f_fits (k + 1) low s (subst (λ (m : ℕ). EndsIn t n net f m low) (sym one_more) h) s_is l)

    -- Below an end that climbs stands a least end that does: ends of longer chains are closed upward.
    pub steady_or_climbs : (k : ℕ) → IsSteady (is_state t (wiring net)) (state_leq t (wiring net)) (StepsIn t n net f) k ⊎ ((s : Row) × EndsLeastIn t n net f k s × (EndsIn t n net f (suc k) s → ⊥))
    steady_or_climbs k =
        by_decision (decided_some (is_state t (wiring net)) (Climbs k) (finite_rows t (state_kinds (wiring net))) (λ s climbs. end_is_state k s climbs.0)
        (λ s. decided_both _ _ (decided_net_end t n net f k s) (decided_not _ (decided_net_end t n net f (suc k) s))))
      where
        stays : ((s : Row) × Climbs k s → ⊥) → (s : Row) → EndsIn t n net f k s → Decided (EndsIn t n net f (suc k) s) → EndsIn t n net f (suc k) s
        stays none s h (inl longer) = longer
        stays none s h (inr never) = absurd (none (s, (h, never)))

        by_decision : Decided ((s : Row) × Climbs k s) → IsSteady (is_state t (wiring net)) (state_leq t (wiring net)) (StepsIn t n net f) k ⊎ ((s : Row) × EndsLeastIn t n net f k s × (EndsIn t n net f (suc k) s → ⊥))
        by_decision (inr none) = inl (λ s h. stays none s h (decided_net_end t n net f (suc k) s))
        by_decision (inl found) =
            let low = least_end k found.0 found.1.0 in
            inr (low.0, low.1, λ longer. found.1.1 (rises k low.0 found.0 longer (end_is_state k found.0 found.1.0) low.2))
