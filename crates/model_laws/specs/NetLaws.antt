-- The laws on steps and chains, of typed nets.
use Rattle.std.specs.Prelude.{◌≡◌, ◌+◌, ℕ, suc, IsTrue, List, []}
use Rattle.std.proofs.Common.{subst, arith, sym}
use Rattle.order_core.specs.ChainLaws.{ends_rise, ends_fall, least_steps_to_itself, stays_for_ever}
use Rattle.order_core.specs.Chains.{IsMonotone, IsSteady}
use Rattle.value_type.specs.declared.poset.Types.{Types}
use Rattle.value_type.specs.Fits.{row_fits}
use Rattle.value_type.specs.PortKinds.{port_kinds}
use Rattle.design_model.specs.Cuts.{cut_signals}
use Rattle.design_model.specs.Rows.{Row}
use Rattle.design_model.specs.Steady.{NetOf, design_of, wiring, MayCarryIn}
use Rattle.design_model.specs.SteadyLaws.{StepsIn, EndsIn, EndsLeastIn}
use Rattle.design_model.specs.Step.{is_state, state_leq}
use Rattle.design_model.specs.Typed.{IsTyped}
use Rattle.design_model.specs.TypedLaws.{IsTyped-Net}
use Rattle.design_model.specs.Wiring.{Carried}
use Rattle.model_laws.specs.RoundsMonotoneLaws.{feasible_carried_fits}
use Rattle.model_laws.specs.SatisfiedLaws.{CarriedFits}
use Rattle.model_laws.specs.SteadyLaws.{steady_at_once}
use Rattle.model_laws.specs.StepLaws.{states_in_order, steps_monotone}

module _ (t : Types) (n : ℕ) (net : NetOf) (f : Row) where
  one_more : (k : ℕ) → suc k ≡ k + 1
  one_more k = omega arith

  may_fit : (carried : List Carried) → MayCarryIn t n net carried → CarriedFits t (wiring net) carried
  may_fit = feasible_carried_fits t n net.provides net.requires_ net.parts net.constraints

  states : (x y : Row) → IsTrue (is_state t (wiring net) x) → StepsIn t n net f x y → IsTrue (is_state t (wiring net) y)
  states x y v by = by.1.after_is

  pub least_steps : (k : ℕ) (s : Row) → EndsLeastIn t n net f k s → EndsIn t n net f (k + 1) s → StepsIn t n net f s s
  least_steps k s h longer =
      least_steps_to_itself (is_state t (wiring net)) (state_leq t (wiring net)) (StepsIn t n net f) k s h (subst (λ (m : ℕ). EndsIn t n net f m s) (sym (one_more k)) longer)

  pub net_ends_fall : (k : ℕ) (s : Row) → EndsIn t n net f (k + 1) s → EndsIn t n net f k s
  net_ends_fall k s h = ends_fall (is_state t (wiring net)) (state_leq t (wiring net)) (StepsIn t n net f) states k s (subst (λ (m : ℕ). EndsIn t n net f m s) (sym (one_more k)) h)

  pub net_stays : (k more : ℕ) (s : Row) → EndsLeastIn t n net f k s → EndsIn t n net f (k + 1) s → EndsLeastIn t n net f (more + k) s
  net_stays k more s h longer =
      stays_for_ever (is_state t (wiring net)) (state_leq t (wiring net)) (StepsIn t n net f) states (states_in_order t (wiring net)).reflexive more k s h (least_steps k s h longer)

  pub net_steady_at_once : cut_signals (wiring net) ≡ [] → (k : ℕ) → IsSteady (is_state t (wiring net)) (state_leq t (wiring net)) (StepsIn t n net f) (k + 1)
  net_steady_at_once none k =
      subst (λ (m : ℕ). IsSteady (is_state t (wiring net)) (state_leq t (wiring net)) (StepsIn t n net f) m) (one_more k)
      (steady_at_once t (wiring net) (MayCarryIn t n net) none f k)

  module _ (typed : IsTyped t (design_of net)) (f_fits : IsTrue (row_fits t (port_kinds net.provides) f)) where
    pub net_steps_monotone : IsMonotone (is_state t (wiring net)) (state_leq t (wiring net)) (StepsIn t n net f)
    net_steps_monotone = let is = rw IsTyped-Net at typed in steps_monotone t (wiring net) (MayCarryIn t n net) is.each_constraint may_fit f f_fits

    pub net_ends_rise : (k : ℕ) (s u : Row) → EndsIn t n net f k s → IsTrue (is_state t (wiring net) u) → IsTrue (state_leq t (wiring net) s u) → EndsIn t n net f k u
    net_ends_rise k s u h v l = ends_rise (is_state t (wiring net)) (state_leq t (wiring net)) (StepsIn t n net f) (states_in_order t (wiring net)) net_steps_monotone k s u h v l
