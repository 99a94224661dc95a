-- Which minima of n rounds are shown to be feasible.
use Rattle.std.specs.Prelude.{◌≡◌, ℕ, zero, suc, IsSomeAnd, List, [], map, slice_get, ◌⊎◌}
use Rattle.value_type.specs.declared.poset.Types.{Types}
use Rattle.design_model.specs.declared.design.Design.{Design, rec-Design}
use Rattle.design_model.specs.declared.design.Design.TheOpen.{Design-F, Part-F}
use Rattle.design_model.specs.declared.design.Part.{Part}
use Rattle.design_model.specs.Cuts.{cut_signals}
use Rattle.design_model.specs.Rounds.{IsMinimumIn}
use Rattle.design_model.specs.Rows.{Row}
use Rattle.design_model.specs.Steady.{NetOf, net_of, wiring}
use Rattle.design_model.specs.SteadyLaws.{StepsIn, EndsLeastIn, Asks}
use Rattle.design_model.specs.Step.{own_values}

-- The state is also a least end of chains of n - 1 steps.
abbrev pub EndsLeastBefore : Types → ℕ → NetOf → Row → ℕ → Row → Type 0
EndsLeastBefore t n net f zero state = ⊥
EndsLeastBefore t n net f (suc k) state = EndsLeastIn t n net f k state

-- The state shows r for the net: it has r at the own required ports, is a least end, also of one step fewer where there is a cut signal, and steps to itself; and at each row that such a step asks of a part, each minimum of the part is shown.
pub record ShownBy (t : Types) (n : ℕ) (net : NetOf) (f r : Row) (ShownAt : ℕ → Row → Row → Type 0) (state : Row) : Type 0 where
  pub own : own_values (wiring net) state ≡ r
  pub steps : StepsIn t n net f state state
  pub ends : EndsLeastIn t n net f n state
  pub ends_before : (cut_signals (wiring net) ≡ []) ⊎ EndsLeastBefore t n net f n state
  pub parts : (i : ℕ) (row answer : Row) → Asks t n net f state i row → IsSomeAnd (slice_get net.parts i) (λ p. IsMinimumIn t n p.design row answer) → ShownAt i row answer

-- The part of this number is there, and shows the answer at the row.
abbrev pub PartShows : {Y : Type 0} → (Y → Row → Row → Type 0) → List Y → ℕ → Row → Row → Type 0
PartShows shows parts i row answer = IsSomeAnd (slice_get parts i) (λ part. shows part row answer)

-- One level of a design. X stands for the designs below and Y for the branches or parts: `part` gives the part that a Y is, and `shows_part` says which of its minima are shown.
abbrev pub ShowsAt : Types → ℕ → (X Y : Type 0) → (X → Design) → (Y → Part) → (X → Row → Row → Type 0) → (Y → Row → Row → Type 0)
    → Design-F X Y → Row → Row → Type 0
ShowsAt t n X Y design part shows shows_part (Design-F.Cat provides requires_ rows) f r = Unit {0}
ShowsAt t n X Y design part shows shows_part (Design-F.Choice provides requires_ branches) f r =
    (number : ℕ) × IsSomeAnd (slice_get branches number) (λ branch. IsMinimumIn t n (part branch).design f r × shows_part branch f r)
ShowsAt t n X Y design part shows shows_part (Design-F.Net provides requires_ parts constraints) f r =
    (state : Row) × ShownBy t n (net_of provides requires_ (map part parts) constraints) f r (PartShows shows_part parts) state

abbrev pub ShowsAtPart : (X Y : Type 0) → (X → Design) → (Y → Part) → (X → Row → Row → Type 0) → (Y → Row → Row → Type 0)
    → Part-F X Y → Row → Row → Type 0
ShowsAtPart X Y design part shows shows_part p = shows p.design

-- What shows a minimum, beside its being one: nothing more for a catalogue, a shown minimum of a branch, or a state of a net.
unfoldable pub Shows : Types → ℕ → Design → Row → Row → Type 0
Shows t n = rec-Design (Row → Row → Type 0) (Row → Row → Type 0) (ShowsAt t n) ShowsAtPart

-- A minimum in n rounds that is shown.
pub record IsShown (t : Types) (n : ℕ) (design : Design) (f r : Row) : Type 0 where
  pub minimum : IsMinimumIn t n design f r
  pub shows : Shows t n design f r
