-- Orders in which each module stands after those that its references name.
use Rattle.std.specs.Prelude.{◌≡◌, ℕ, List, [], ◌∷◌, ◌++◌, Option, Some, slice_get}
use Rattle.std.specs.List.{flat_map}
use Rattle.order_core.specs.Members.{IsMember}
use Rattle.order_core.specs.Pointwise.{Each}
use Rattle.reference_meaning.specs.Modules.{Modules}
use Rattle.reference_meaning.specs.declared.module.Link.{Link}
use Rattle.reference_meaning.specs.declared.module.Module.{Module}
use Rattle.reference_meaning.specs.declared.module.ModuleBody.{ModuleBody}
use Rattle.reference_meaning.specs.declared.module.ModuleBody.TheVariants as body
use Rattle.reference_meaning.specs.declared.module.Resolved.{Resolved, fold-Resolved}
use Rattle.reference_meaning.specs.declared.module.Resolved.TheOpen.{Resolved-F}

abbrev pub modules_step : Resolved-F (List ℕ) → List ℕ
modules_step (Resolved-F.Parameter k) = []
modules_step (Resolved-F.Module number arguments) = number ∷ flat_map (λ xs. xs) arguments

-- the numbers of the modules that a reference names, in its arguments too
abbrev pub modules_in : Resolved → List ℕ
modules_in = fold-Resolved (List ℕ) modules_step

abbrev pub links_modules : List Link → List ℕ
links_modules links = flat_map (λ l. modules_in l.reference) links

-- the numbers of the modules that a body names
abbrev pub body_modules : ModuleBody → List ℕ
body_modules (body.Catalogue rows) = []
body_modules (body.Choice branches) = links_modules branches
body_modules (body.Net parts constraints) = links_modules parts

abbrev pub named_by : Option (Option Module) → List ℕ
named_by (Some (Some m)) = body_modules m.body
named_by _ = []

-- Each number that follows is new, and its module names only those that stand before it.
abbrev pub InOrder : Modules → List ℕ → List ℕ → Type 0
InOrder modules before [] = Unit {0}
InOrder modules before (i ∷ rest) = (IsMember i before → ⊥) × Each (λ j. IsMember j before) (named_by (slice_get modules i)) × InOrder modules (before ++ i ∷ []) rest

-- All modules stand in the order, each after those that it names.
pub record IsOrderOf (modules : Modules) (order : List ℕ) : Type 0 where
  pub in_order : InOrder modules [] order
  pub all : (i : ℕ) (m : Module) → slice_get modules i ≡ Some (Some m) → IsMember i order
