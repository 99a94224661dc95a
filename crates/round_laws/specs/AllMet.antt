-- A design of which no net that is met loses anything in its last round.
use Rattle.std.specs.Prelude.{ℕ, List}
use Rattle.value_type.specs.declared.poset.Types.{Types}
use Rattle.design_model.specs.declared.design.Design.{Design}
use Rattle.design_model.specs.Met.{IsMet}
use Rattle.design_model.specs.Rows.{Row}
use Rattle.design_model.specs.Steady.{NetOf, design_of}
use Rattle.design_model.specs.SteadyLaws.{IsSteadyIn}

-- Each net that is met where the design is met at f is steady.
abbrev pub AllMetAreSteady : Types → ℕ → Design → Row → Type 0
AllMetAreSteady t n design f = (path : List ℕ) (net : NetOf) (g : Row) → IsMet t n path design f (design_of net) g → IsSteadyIn t n net g
