-- What a design needs in a number of rounds.
use Rattle.std.specs.Prelude.{◌≡◌, ℕ, IsSomeAnd, List, slice_get}
use Rattle.order_core.specs.Chains.{EndsChain, IsLeastEnd}
use Rattle.order_core.specs.Minimal.{IsMinimal}
use Rattle.order_core.specs.Pointwise.{Pointwise}
use Rattle.value_type.specs.declared.port.Port.{Port}
use Rattle.value_type.specs.declared.poset.Types.{Types}
use Rattle.design_model.specs.declared.design.CatRow.{CatRow}
use Rattle.design_model.specs.declared.design.Design.{Design, rec-Design}
use Rattle.design_model.specs.declared.design.Design.TheOpen.{Design-F, Part-F}
use Rattle.design_model.specs.declared.design.Part.{Part}
use Rattle.design_model.specs.Feasible.{resources_leq}
use Rattle.design_model.specs.Holds.{Fit, RowHolds}
use Rattle.design_model.specs.Rows.{Row}
use Rattle.design_model.specs.Step.{is_state, state_leq, own_values}
use Rattle.design_model.specs.StepLaws.{Steps}
use Rattle.design_model.specs.Wiring.{Wiring, wiring_of, Carried}

-- The state ends a chain of k steps of the net.
abbrev pub Ends : Types → Wiring → (List Carried → Type 0) → Row → ℕ → Row → Type 0
Ends t net MayCarry f = EndsChain (is_state t net) (state_leq t net) (Steps t net MayCarry f)

-- The state is minimal among those that end a chain of k steps.
abbrev pub EndsLeast : Types → Wiring → (List Carried → Type 0) → Row → ℕ → Row → Type 0
EndsLeast t net MayCarry f = IsLeastEnd (is_state t net) (state_leq t net) (Steps t net MayCarry f)

-- A state that ends a chain of n steps has r at the own required ports.
pub record SomeEnds (t : Types) (net : Wiring) (MayCarry : List Carried → Type 0) (f : Row) (n : ℕ) (r : Row) : Type 0 where
  pub state : Row
  pub ends : Ends t net MayCarry f n state
  pub own : own_values net state ≡ r

-- Each part is feasible at what it carries.
abbrev pub EachFeasible : {Y : Type 0} → (Y → Row → Row → Type 0) → List Y → List Carried → Type 0
EachFeasible feasible parts carried = Pointwise (λ part c. feasible part c.provided c.required) parts carried

-- Some row provides at least f and requires at most r.
abbrev pub SomeRow : Types → List Port → List Port → List CatRow → Row → Row → Type 0
SomeRow t provides requires_ rows f r = (number : ℕ) × IsSomeAnd (slice_get rows number) (RowHolds t provides requires_ f r)

-- Some branch is feasible at f and r.
abbrev pub SomeBranch : {Y : Type 0} → (Y → Row → Row → Type 0) → List Y → Row → Row → Type 0
SomeBranch feasible branches f r = (number : ℕ) × IsSomeAnd (slice_get branches number) (λ branch. feasible branch f r)

-- One level of a design. X stands for the designs below and Y for the branches or parts: `part` gives the part that a Y is, and `feasible_part` says at which rows it is feasible.
abbrev pub FeasibleAt : Types → ℕ → (X Y : Type 0) → (X → Design) → (Y → Part) → (X → Row → Row → Type 0) → (Y → Row → Row → Type 0)
    → Design-F X Y → Row → Row → Type 0
FeasibleAt t n X Y design part feasible feasible_part (Design-F.Cat provides requires_ rows) f r =
    Fit t provides requires_ f r × SomeRow t provides requires_ rows f r
FeasibleAt t n X Y design part feasible feasible_part (Design-F.Choice provides requires_ branches) f r =
    Fit t provides requires_ f r × SomeBranch feasible_part branches f r
FeasibleAt t n X Y design part feasible feasible_part (Design-F.Net provides requires_ parts constraints) f r =
    Fit t provides requires_ f r × SomeEnds t (wiring_of part provides requires_ parts constraints) (EachFeasible feasible_part parts) f n r

abbrev pub FeasibleAtPart : (X Y : Type 0) → (X → Design) → (Y → Part) → (X → Row → Row → Type 0) → (Y → Row → Row → Type 0)
    → Part-F X Y → Row → Row → Type 0
FeasibleAtPart X Y design part feasible feasible_part p = feasible p.design

-- In n rounds the resources r are feasible for the functionality f. Both fit. A row of a catalogue provides f within r, a branch of a choice is feasible so, or a chain of n steps of a net ends with r at the own required ports.
unfoldable pub IsFeasibleIn : Types → ℕ → Design → Row → Row → Type 0
IsFeasibleIn t n = rec-Design (Row → Row → Type 0) (Row → Row → Type 0) (FeasibleAt t n) FeasibleAtPart

-- Feasible in n rounds, and no other such row is at most it.
abbrev pub IsMinimumIn : Types → ℕ → Design → Row → Row → Type 0
IsMinimumIn t n design f r = IsMinimal (resources_leq t design) (IsFeasibleIn t n design f) r
