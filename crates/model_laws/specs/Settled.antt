-- What a state settles on is feasible, where the parts are.
use Rattle.std.specs.Prelude.{◌≡◌, List, map}
use Rattle.design_model.specs.Feasible.{IsFeasible}
use Rattle.design_model.specs.Holds.{Holds, PartHolds, carried_by}
use Rattle.design_model.specs.Wiring.{Carried}
use Rattle.design_model.specs.declared.design.Part.{Part}
use Rattle.design_model.specs.declared.witness.PartWitness.{PartWitness}
use Rattle.order_core.specs.Pointwise.{Pointwise}
use Rattle.value_type.specs.declared.poset.Types.{Types}

-- Each part is feasible at what it carries.
abbrev pub AreFeasible : Types → List Part → List Carried → Type 0
AreFeasible t parts carried = Pointwise (λ p c. IsFeasible t p.design c.provided c.required) parts carried

-- Witnesses with which the parts hold at what they carry.
pub record Witnessed (t : Types) (parts : List Part) (carried : List Carried) : Type 0 where
  pub witnesses : List PartWitness
  pub hold : Pointwise (PartHolds (λ p. Holds t p.design)) parts witnesses
  pub same : map carried_by witnesses ≡ carried
