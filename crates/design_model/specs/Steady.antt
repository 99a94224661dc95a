-- Steady nets, and what a tight step asks of the parts.
use Rattle.std.specs.Prelude.{ℕ, zero, suc, List, [], ◌∷◌}
use Rattle.design_model.specs.Rounds.{EachFeasible, IsFeasibleIn}
use Rattle.design_model.specs.Rows.{Row}
use Rattle.design_model.specs.Wiring.{Wiring, wiring_of, Carried}
use Rattle.design_model.specs.declared.design.Design.TheVariants.{Net}
use Rattle.design_model.specs.declared.design.Design.{Design}
use Rattle.design_model.specs.declared.design.Part.{Part}
use Rattle.design_model.specs.declared.expr.Constraint.{Constraint}
use Rattle.value_type.specs.declared.port.Port.{Port}
use Rattle.value_type.specs.declared.poset.Types.{Types}

-- A net: its own ports, its parts and its constraints.
pub record NetOf : Type 0 where
  pub provides : List Port
  pub requires_ : List Port
  pub parts : List Part
  pub constraints : List Constraint

abbrev pub net_of : List Port → List Port → List Part → List Constraint → NetOf
net_of provides requires_ parts constraints = record { provides = provides; requires_ = requires_; parts = parts; constraints = constraints }

abbrev pub design_of : NetOf → Design
design_of net = Net net.provides net.requires_ net.parts net.constraints

abbrev pub wiring : NetOf → Wiring
wiring net = wiring_of (λ p. p) net.provides net.requires_ net.parts net.constraints

-- Each part is feasible in n rounds at what it carries.
abbrev pub MayCarryIn : Types → ℕ → NetOf → List Carried → Type 0
MayCarryIn t n net = EachFeasible (λ p. IsFeasibleIn t n p.design) net.parts

-- the rows that the parts carry, with another provided row for one part
abbrev pub with_provided : ℕ → Row → List Carried → List Carried
with_provided i row [] = []
with_provided zero row (c ∷ carried) = record { provided = row; required = c.required } ∷ carried
with_provided (suc i) row (c ∷ carried) = c ∷ with_provided i row carried
