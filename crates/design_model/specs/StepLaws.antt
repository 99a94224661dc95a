-- The states of a net, and the steps between them.
use Rattle.std.specs.Prelude.{IsTrue, List}
use Rattle.design_model.specs.Cuts.{cut_signals}
use Rattle.design_model.specs.Rows.{Row}
use Rattle.design_model.specs.Step.{IsCovered, cut_values, is_state, own_values, step_reads}
use Rattle.design_model.specs.Wiring.{Wiring, Carried, Satisfied}
use Rattle.order_core.specs.Pointwise.{Each, Pointwise}
use Rattle.value_type.specs.declared.poset.Types.{Types}

-- In a net with this wiring, where `MayCarry` says which rows its parts may carry together, at the functionality f:
module _ (t : Types) (net : Wiring) (MayCarry : List Carried → Type 0) (f : Row) where
  -- The parts carry these rows in a step from the state before to the state after: each part may, each constraint is satisfied, and each cut signal carries at most its value in the state after.
  pub record StepsBy (before after : Row) (carried : List Carried) : Type 0 where
    pub before_is : IsTrue (is_state t net before)
    pub after_is : IsTrue (is_state t net after)
    pub may_carry : MayCarry carried
    pub constraints : Each (λ c. Satisfied t net (own_values net after) carried (step_reads net f before carried c.greater) c) net.constraints
    pub covered : Pointwise (IsCovered t carried) (cut_signals net) (cut_values net after)

  -- A step leads from the state before to the state after.
  abbrev pub Steps : Row → Row → Type 0
  Steps before after = (carried : List Carried) × StepsBy before after carried
