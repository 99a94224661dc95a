-- The design that a resolved reference denotes, and that of a module.
use Rattle.std.specs.Prelude.{◌≡◌, ℕ, zero, suc, List, [], Option, Some, slice_get}
use Rattle.order_core.specs.Pointwise.{Pointwise}
use Rattle.design_model.specs.declared.design.Design.{Design}
use Rattle.design_model.specs.declared.design.Design.TheVariants.{Cat, Net}
use Rattle.design_model.specs.declared.design.Part.{Part}
use Rattle.reference_meaning.specs.Denotes.{choice_of}
use Rattle.reference_meaning.specs.declared.module.Link.{Link}
use Rattle.reference_meaning.specs.declared.module.Module.{Module}
use Rattle.reference_meaning.specs.declared.module.ModuleBody.{ModuleBody}
use Rattle.reference_meaning.specs.declared.module.ModuleBody.TheVariants as body
use Rattle.reference_meaning.specs.declared.module.Resolved.{Resolved, out-Resolved}
use Rattle.reference_meaning.specs.declared.module.Resolved.TheOpen.{Resolved-F}

-- The modules of a library by their numbers; a number may have none.
abbrev pub Modules : Type 0
Modules = List (Option Module)

-- The part has the link's name, and is the design that its reference denotes.
pub record IsLinked (Refers : Resolved → Design → Type 0) (link : Link) (part : Part) : Type 0 where
  pub name : part.name ≡ link.name
  pub denotes : Refers link.reference part.design

-- A body denotes its catalogue, a choice of what its branches denote, or a net of what its instances denote.
abbrev pub BodyMakes : (Resolved → Design → Type 0) → Module → ModuleBody → Design → Type 0
BodyMakes Refers m (body.Catalogue rows) X = X ≡ Cat m.provides m.requires_ rows
BodyMakes Refers m (body.Choice branches) X = (parts : List Part) × Pointwise (IsLinked Refers) branches parts × (X ≡ choice_of parts)
BodyMakes Refers m (body.Net instances constraints) X = (parts : List Part) × Pointwise (IsLinked Refers) instances parts × (X ≡ Net m.provides m.requires_ parts constraints)

-- The module of the number is there. The design is what its body denotes, where its parameters stand for what the arguments denote.
pub record NamesModule (modules : Modules) (D : List Design → Resolved → Design → Type 0) (given : List Design) (number : ℕ) (arguments : List Resolved) (X : Design) : Type 0 where
  pub named : Module
  pub there : slice_get modules number ≡ Some (Some named)
  pub inner : List Design
  pub bound : Pointwise (D given) arguments inner
  pub denotes : BodyMakes (D inner) named named.body X

-- one level of a reference, where parameters stand for these designs
abbrev pub MakesAt : Modules → (List Design → Resolved → Design → Type 0) → List Design → Resolved-F Resolved → Design → Type 0
MakesAt modules D given (Resolved-F.Parameter k) X = slice_get given k ≡ Some X
MakesAt modules D given (Resolved-F.Module number arguments) X = NamesModule modules D given number arguments X

-- The reference denotes the design in at most n steps, each from a reference to one in an argument or in a body.
unfoldable pub MakesIn : Modules → ℕ → List Design → Resolved → Design → Type 0
MakesIn modules zero given r X = ⊥
MakesIn modules (suc n) given r X = MakesAt modules (MakesIn modules n) given (out-Resolved r) X

-- The reference denotes the design, where parameters stand for these.
abbrev pub Makes : Modules → List Design → Resolved → Design → Type 0
Makes modules given r X = (n : ℕ) × MakesIn modules n given r X

-- The module, which has no parameters, denotes the design.
abbrev pub ModuleMakes : Modules → Module → Design → Type 0
ModuleMakes modules m X = (n : ℕ) × BodyMakes (MakesIn modules n []) m m.body X
