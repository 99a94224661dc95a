-- Steady nets, and what a tight step asks of the parts.
use Rattle.std.specs.Prelude.{◌≡◌, ℕ, zero, suc, IsTrue, IsSomeAnd, List, [], Some, slice_get, ◌⊎◌}
use Rattle.design_model.specs.Cuts.{cut_signals}
use Rattle.design_model.specs.Evaluation.{is_into}
use Rattle.design_model.specs.Parts.{provided_ports}
use Rattle.design_model.specs.Rounds.{Ends, EndsLeast, IsMinimumIn}
use Rattle.design_model.specs.Rows.{Row}
use Rattle.design_model.specs.Steady.{MayCarryIn, NetOf, wiring, with_provided}
use Rattle.design_model.specs.Step.{is_state, state_leq, own_values, step_reads}
use Rattle.design_model.specs.StepLaws.{StepsBy, Steps}
use Rattle.design_model.specs.Wiring.{Carried, Satisfied}
use Rattle.design_model.specs.declared.design.Part.{Part}
use Rattle.design_model.specs.declared.expr.Constraint.{Constraint}
use Rattle.order_core.specs.Chains.{IsSteady}
use Rattle.order_core.specs.Members.{IsMember}
use Rattle.value_type.specs.Fits.{row_fits}
use Rattle.value_type.specs.Leq.{row_leq}
use Rattle.value_type.specs.PortKinds.{port_kinds}
use Rattle.value_type.specs.declared.poset.Types.{Types}

-- Of a net in n rounds at the functionality f:
module _ (t : Types) (n : ℕ) (net : NetOf) (f : Row) where
  -- A step leads from the first state to the second by these rows of the parts.
  abbrev pub StepsInBy : Row → Row → List Carried → Type 0
  StepsInBy = StepsBy t (wiring net) (MayCarryIn t n net) f

  abbrev pub StepsIn : Row → Row → Type 0
  StepsIn = Steps t (wiring net) (MayCarryIn t n net) f

  -- The state ends a chain of k steps.
  abbrev pub EndsIn : ℕ → Row → Type 0
  EndsIn = Ends t (wiring net) (MayCarryIn t n net) f

  -- The state is minimal among those that end a chain of k steps.
  abbrev pub EndsLeastIn : ℕ → Row → Type 0
  EndsLeastIn = EndsLeast t (wiring net) (MayCarryIn t n net) f

  -- The last round loses nothing: each end of a chain of n - 1 steps also ends one of n steps.
  abbrev pub LastRoundIsSteady : ℕ → Type 0
  LastRoundIsSteady zero = ⊥
  LastRoundIsSteady (suc k) = IsSteady (is_state t (wiring net)) (state_leq t (wiring net)) StepsIn k

  -- The net is steady: it has no cut signal, or its last round loses nothing.
  abbrev pub IsSteadyIn : Type 0
  IsSteadyIn = (cut_signals (wiring net) ≡ []) ⊎ LastRoundIsSteady n

  -- Each constraint into the part holds in the step with this provided row in place of the part's own.
  abbrev pub KeepsInto : Row → Row → List Carried → ℕ → Row → Type 0
  KeepsInto before after carried i row = (c : Constraint) → IsMember c net.constraints → IsTrue (is_into i c.greater)
      → Satisfied t (wiring net) (own_values (wiring net) after) (with_provided i row carried) (step_reads (wiring net) f before carried c.greater) c

  -- No other row at most the part's provided one, put in its place, satisfies all constraints into the part; and its required row is a minimum of n rounds.
  pub record IsTightAt (before after : Row) (carried : List Carried) (i : ℕ) (p : Part) (c : Carried) : Type 0 where
    pub minimal : (row : Row) → IsTrue (row_fits t (port_kinds (provided_ports p.design)) row) → IsTrue (row_leq t (port_kinds (provided_ports p.design)) row c.provided)
        → KeepsInto before after carried i row → row ≡ c.provided
    pub answer : IsMinimumIn t n p.design c.provided c.required

  -- It is a step by these rows, and tight at each part.
  pub record IsTight (before after : Row) (carried : List Carried) : Type 0 where
    pub steps : StepsInBy before after carried
    pub tight : (i : ℕ) (p : Part) (c : Carried) → slice_get net.parts i ≡ Some p → slice_get carried i ≡ Some c → IsTightAt before after carried i p c

  -- A step from the state to itself asks the part of this number for this row. Only tight steps ask.
  abbrev pub Asks : Row → ℕ → Row → Type 0
  Asks state i row = (carried : List Carried) × IsTight state state carried × IsSomeAnd (slice_get carried i) (λ c. c.provided ≡ row)
