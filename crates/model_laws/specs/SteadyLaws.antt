-- A net without cut signals is steady.
use Rattle.std.specs.Prelude.{◌≡◌, ℕ, suc, cond, IsTrue, List, [], take, length, slice_get}
use Rattle.std.proofs.Common.{ap, sym, subst, ◌∙◌}
use Rattle.order_core.specs.ChainLaws.{stays}
use Rattle.order_core.specs.Chains.{IsSteady}
use Rattle.order_core.specs.PointwiseLaws.{each_weaker}
use Rattle.value_type.specs.declared.poset.Types.{Types}
use Rattle.design_model.specs.declared.expr.Greater.{Greater}
use Rattle.design_model.specs.Cuts.{Signal, cut_signals, is_cut_read}
use Rattle.design_model.specs.Rows.{Row}
use Rattle.design_model.specs.Step.{is_state, state_leq, own_values, signal_value, step_reads}
use Rattle.design_model.specs.StepLaws.{Steps}
use Rattle.design_model.specs.ValueOf.{Reads, port_at}
use Rattle.design_model.specs.Wiring.{Wiring, Carried, required_rows, Satisfied}
use Rattle.model_laws.specs.StepLaws.{states_in_order}

-- Reads of a step that has these cut signals.
abbrev reads_with : Wiring → Row → Row → List Carried → Greater → List Signal → Reads
reads_with net f before carried into signals = record {
  own = slice_get f;
  inner = λ part port. cond (is_cut_read net into part) (signal_value signals (take (length signals) before) part port) (port_at (required_rows carried) part port);
}

module _ (t : Types) (net : Wiring) (MayCarry : List Carried → Type 0) (none : cut_signals net ≡ []) where
  -- No state before is read.
  same_reads : (f x y : Row) (carried : List Carried) (into : Greater) → step_reads net f x carried into ≡ step_reads net f y carried into
  same_reads f x y carried into = ap (reads_with net f x carried into) none ∙ sym (ap (reads_with net f y carried into) none)

  -- So a step leads to the same states from everywhere,
  pub steps_from_all : (f x y z : Row) → IsTrue (is_state t net y) → Steps t net MayCarry f x z → Steps t net MayCarry f y z
  steps_from_all f x y z y_is step =
      let by = step.1 in (
        step.0,
        record {
          before_is = y_is;
          after_is = by.after_is;
          may_carry = by.may_carry;
          constraints = each_weaker _ _ net.constraints (λ c m. subst (λ (reads : Reads). Satisfied t net (own_values net z) step.0 reads c) (same_reads f x y step.0 c.greater)) by.constraints;
          covered = by.covered;
        },
      )

  -- and one step settles everything.
  pub steady_at_once : (f : Row) (k : ℕ) → IsSteady (is_state t net) (state_leq t net) (Steps t net MayCarry f) (suc k)
  steady_at_once f k s h =
      stays (is_state t net) (state_leq t net) (Steps t net MayCarry f) (λ x y v by. by.1.after_is) (states_in_order t net).reflexive (suc k) s h (steps_from_all f h.0 s s h.3.1.after_is h.3)
