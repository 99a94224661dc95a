-- References with their names resolved, and the modules that files are.
use Rattle.std.specs.Prelude.{◌≡◌, ℕ, List, [], map, find, Option, Some, None, option_and_then, option_map, slice_get}
use Rattle.std.specs.List.{position_from}
use Rattle.std.specs.Str.{bytes_eq}
use Rattle.design_lexer.specs.declared.tree.BodyTree.{BodyTree}
use Rattle.design_lexer.specs.declared.tree.BodyTree.TheVariants as tree
use Rattle.design_lexer.specs.declared.tree.BranchTree.{BranchTree}
use Rattle.design_lexer.specs.declared.tree.RefTree.{RefTree, RefTree-F, fold-RefTree}
use Rattle.order_core.specs.Pointwise.{Pointwise}
use Rattle.reference_meaning.specs.Modules.{Modules}
use Rattle.reference_meaning.specs.Sources.{Content, Source, body_of, params_of, source_place}
use Rattle.reference_meaning.specs.declared.module.Link.{Link}
use Rattle.reference_meaning.specs.declared.module.Module.{Module}
use Rattle.reference_meaning.specs.declared.module.ModuleBody.{ModuleBody}
use Rattle.reference_meaning.specs.declared.module.ModuleBody.TheVariants as body
use Rattle.reference_meaning.specs.declared.module.Resolved.{Resolved}
use Rattle.reference_meaning.specs.declared.module.Resolved.TheVariants as resolved
use Rattle.tree_units.specs.Together.{together}

-- An argument: its name, and what it refers to where that can be resolved.
pub record Filled : Type 0 where
  pub name : List ℕ
  pub resolved : Option Resolved

-- what is given for the parameter of this name
abbrev pub filled : List Filled → List ℕ → Option Resolved
filled arguments name = option_and_then (λ f. f.resolved) (find (λ f. bytes_eq name f.name) arguments)

-- the number of the first parameter of this name
abbrev pub param_place : List (List ℕ) → List ℕ → Option ℕ
param_place params name = position_from (bytes_eq name) 0 params

abbrev pub source_params : Option Source → List (List ℕ)
source_params (Some s) = params_of s.tree
source_params None = []

-- A parameter's number, or else the number of the file with an argument for each of its parameters.
abbrev pub resolved_by : List Source → Option ℕ → Option ℕ → List Filled → Option Resolved
resolved_by sources (Some k) file arguments = Some (resolved.Parameter k)
resolved_by sources None (Some i) arguments = option_map (resolved.Module i) (together (map (filled arguments) (source_params (slice_get sources i))))
resolved_by sources None None arguments = None

-- one level of a reference, with its arguments resolved
abbrev pub resolve_step : List Source → List (List ℕ) → RefTree-F Filled (Option Resolved) → Option Resolved
resolve_step sources params q = resolved_by sources (param_place params q.name.name) (source_place sources q.name.name) q.arguments

-- the reference with its names resolved, where these are the parameters
abbrev pub resolved_of : List Source → List (List ℕ) → RefTree → Option Resolved
resolved_of sources params = fold-RefTree Filled (Option Resolved) (λ a. record { name = a.name.name; resolved = a.reference }) (resolve_step sources params)

-- The link has the branch's name, and its reference resolved.
pub record IsLinkOf (sources : List Source) (params : List (List ℕ)) (branch : BranchTree) (link : Link) : Type 0 where
  pub name : link.name ≡ branch.name.name
  pub reference : resolved_of sources params branch.reference ≡ Some link.reference

-- The body has the rows, the constraints and the links of the tree.
abbrev pub IsBodyOf : List Source → List (List ℕ) → Content → BodyTree → ModuleBody → Type 0
IsBodyOf sources params c (tree.Catalogue ports rows table) (body.Catalogue made) = made ≡ c.rows
IsBodyOf sources params c (tree.Choose branches) (body.Choice links) = Pointwise (IsLinkOf sources params) branches links
IsBodyOf sources params c (tree.Net ports instances rules) (body.Net links constraints) = Pointwise (IsLinkOf sources params) instances links × (constraints ≡ c.constraints)
IsBodyOf sources params c _ _ = ⊥

-- The module is that of the file.
pub record IsModuleOf (sources : List Source) (source : Source) (b : BodyTree) (m : Module) : Type 0 where
  pub provides : m.provides ≡ source.content.provides
  pub requires_ : m.requires_ ≡ source.content.requires_
  pub body : IsBodyOf sources (params_of source.tree) source.content b m.body

-- Each design and template has its module, under its number.
abbrev pub AreModules : List Source → Modules → Type 0
AreModules sources modules = (i : ℕ) (source : Source) (b : BodyTree) → slice_get sources i ≡ Some source → body_of source.tree ≡ Some b → (m : Module) × (slice_get modules i ≡ Some (Some m)) × IsModuleOf sources source b m
