-- The design that a reference denotes.
use Rattle.std.specs.Prelude.{◌≡◌, ℕ, zero, suc, List, [], ◌∷◌, find, is_some, Option, Some, None, option_map, ◌⊎◌}
use Rattle.std.specs.Str.{bytes_eq}
use Rattle.order_core.specs.Pointwise.{Pointwise}
use Rattle.design_lexer.specs.declared.tree.ArgTree.{ArgTree}
use Rattle.design_lexer.specs.declared.tree.BodyTree.{BodyTree}
use Rattle.design_lexer.specs.declared.tree.BodyTree.TheVariants as body
use Rattle.design_lexer.specs.declared.tree.BranchTree.{BranchTree}
use Rattle.design_lexer.specs.declared.tree.RefTree.{RefTree}
use Rattle.design_model.specs.declared.design.Design.{Design}
use Rattle.design_model.specs.declared.design.Design.TheVariants.{Cat, Choice, Net}
use Rattle.design_model.specs.declared.design.Part.{Part}
use Rattle.design_model.specs.Parts.{provided_ports, required_ports}
use Rattle.reference_meaning.specs.Sources.{Content, GiveEach, Source, argument_of, arguments_of, body_of, design_named, is_among, name_of, parameter_of, params_of, source_named}

-- A parameter, and the design that it stands for.
pub record Binding : Type 0 where
  pub name : List ℕ
  pub design : Design

-- the design that the parameter of this name stands for
abbrev pub bound : List Binding → List ℕ → Option Design
bound bindings name = option_map (λ b. b.design) (find (λ b. bytes_eq name b.name) bindings)

-- The names that are bound are those of the parameters.
abbrev pub Matches : List (List ℕ) → List Binding → Type 0
Matches params bindings = (name : List ℕ) → is_among params name ≡ is_some (bound bindings name)

-- The argument's parameter stands for the design that the argument denotes.
pub record Binds (Refers : RefTree → Design → Type 0) (a : ArgTree) (b : Binding) : Type 0 where
  pub name : b.name ≡ parameter_of a
  pub denotes : Refers (argument_of a) b.design

-- The branch or part has the instance's name, and is the design that its reference denotes.
pub record IsPart (Refers : RefTree → Design → Type 0) (branch : BranchTree) (part : Part) : Type 0 where
  pub name : part.name ≡ branch.name.name
  pub denotes : Refers branch.reference part.design

-- a choice of these branches, with the ports of the first
abbrev pub choice_of : List Part → Design
choice_of [] = Choice [] [] []
choice_of (p ∷ ps) = Choice (provided_ports p.design) (required_ports p.design) (p ∷ ps)

-- A body denotes its catalogue, a choice of what its branches denote, or a net of what its instances denote.
abbrev pub BodyDenotes : (RefTree → Design → Type 0) → Content → BodyTree → Design → Type 0
BodyDenotes Refers c (body.Catalogue ports rows table) X = X ≡ Cat c.provides c.requires_ c.rows
BodyDenotes Refers c (body.Choose branches) X = (parts : List Part) × Pointwise (IsPart Refers) branches parts × (X ≡ choice_of parts)
BodyDenotes Refers c (body.Net ports instances rules) X = (parts : List Part) × Pointwise (IsPart Refers) instances parts × (X ≡ Net c.provides c.requires_ parts c.constraints)

-- The reference names a design or template, and no parameter, and gives each parameter of it. The design is what its body denotes, where each parameter stands for what its argument denotes.
pub record NamesFile (sources : List Source) (D : List Binding → RefTree → Design → Type 0) (bindings : List Binding) (q : RefTree) (X : Design) : Type 0 where
  pub free : bound bindings (name_of q) ≡ None
  pub source : Source
  pub there : source_named sources (name_of q) ≡ Some source
  pub gives : GiveEach (params_of source.tree) (arguments_of q)
  pub body : BodyTree
  pub body_is : body_of source.tree ≡ Some body
  pub inner : List Binding
  pub arguments : Pointwise (Binds (D bindings)) (arguments_of q) inner
  pub denotes : BodyDenotes (D inner) source.content body X

-- The reference denotes the design in at most n steps, each from a reference to one in an argument or in a body.
unfoldable pub DenotesIn : List Source → ℕ → List Binding → RefTree → Design → Type 0
DenotesIn sources zero bindings q X = ⊥
DenotesIn sources (suc n) bindings q X = (bound bindings (name_of q) ≡ Some X) ⊎ NamesFile sources (DenotesIn sources n) bindings q X

-- A parameter denotes the design that it stands for, and the name of a design or template what its body denotes.
abbrev pub Denotes : List Source → List Binding → RefTree → Design → Type 0
Denotes sources bindings q X = (n : ℕ) × DenotesIn sources n bindings q X

-- The body of this file, which has no parameters, denotes the design.
pub record FileDenotes (sources : List Source) (source : Source) (X : Design) : Type 0 where
  pub body : BodyTree
  pub body_is : body_of source.tree ≡ Some body
  pub steps : ℕ
  pub denotes : BodyDenotes (DenotesIn sources steps []) source.content body X

-- The design of this name is there, and its body denotes this design.
pub record DesignDenotes (sources : List Source) (name : List ℕ) (X : Design) : Type 0 where
  pub source : Source
  pub there : design_named sources name ≡ Some source
  pub denotes : FileDenotes sources source X
