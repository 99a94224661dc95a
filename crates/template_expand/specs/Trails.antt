-- What is denoted in the body that a list of arguments leads to, the innermost first.
use Rattle.std.specs.Prelude.{◌≡◌, ℕ, List, [], ◌∷◌, Option, Some, None, slice_get}
use Rattle.order_core.specs.Pointwise.{Pointwise}
use Rattle.design_model.specs.declared.design.Design.{Design}
use Rattle.design_model.specs.declared.design.Part.{Part}
use Rattle.reference_meaning.specs.Modules.{BodyMakes, IsLinked, MakesIn, Modules}
use Rattle.reference_meaning.specs.declared.module.Link.{Link}
use Rattle.reference_meaning.specs.declared.module.Module.{Module}
use Rattle.reference_meaning.specs.declared.module.Resolved.{Resolved, out-Resolved}
use Rattle.reference_meaning.specs.declared.module.Resolved.TheOpen.{Resolved-F}

-- The innermost arguments denote these designs, in the body that the others lead to.
unfoldable pub StandFor : Modules → List (List Resolved) → List Design → Type 0
StandFor modules [] given = given ≡ []
StandFor modules (arguments ∷ outer) given = (before : List Design) × StandFor modules outer before × ((n : ℕ) × Pointwise (MakesIn modules n before) arguments given)

-- A property of some number of steps and what the parameters stand for, in the body that the arguments lead to.
pub record Beneath (modules : Modules) (trail : List (List Resolved)) (P : ℕ → List Design → Type 0) : Type 0 where
  pub given : List Design
  pub stand_for : StandFor modules trail given
  pub steps : ℕ
  pub holds : P steps given

-- The reference denotes the design there.
abbrev pub MakesBeneath : Modules → List (List Resolved) → Resolved → Design → Type 0
MakesBeneath modules trail r X = Beneath modules trail (λ n given. MakesIn modules n given r X)

-- The module's body denotes the design there.
abbrev pub BodyBeneath : Modules → List (List Resolved) → Module → Design → Type 0
BodyBeneath modules trail m X = Beneath modules trail (λ n given. BodyMakes (MakesIn modules n given) m m.body X)

-- The links denote the parts there.
abbrev pub PartsBeneath : Modules → List (List Resolved) → List Link → List Part → Type 0
PartsBeneath modules trail links parts = Beneath modules trail (λ n given. Pointwise (IsLinked (MakesIn modules n given)) links parts)

-- A reference, and the arguments that lead to the body where it stands.
pub record Stands : Type 0 where
  pub trail : List (List Resolved)
  pub reference : Resolved

-- the argument that is given for a reference, if it is a parameter
abbrev pub given_for : List Resolved → Resolved-F Resolved → Option Resolved
given_for arguments (Resolved-F.Parameter k) = slice_get arguments k
given_for arguments (Resolved-F.Module number inner) = None

abbrev pub followed : Option Resolved → Stands → (Resolved → Stands) → Stands
followed None here origin = here
followed (Some argument) here origin = origin argument

-- A parameter leads to the argument that was given for it, and another reference stays where it is.
unfoldable pub original : List (List Resolved) → Resolved → Stands
original [] r = record { trail = []; reference = r }
original (arguments ∷ outer) r = followed (given_for arguments (out-Resolved r)) (record { trail = arguments ∷ outer; reference = r }) (original outer)
