-- The files of a library, and what a reference consists of.
use Rattle.std.specs.Prelude.{◌≡◌, ℕ, Bool, true, false, ◌&&◌, List, [], find, is_some, map, Option, Some, None, option_and_then, slice_get}
use Rattle.std.specs.List.{list_any, position_from}
use Rattle.std.specs.Str.{bytes_eq}
use Rattle.design_lexer.specs.declared.tree.ArgTree.{ArgTree, out-ArgTree}
use Rattle.design_lexer.specs.declared.tree.BodyTree.{BodyTree}
use Rattle.design_lexer.specs.declared.tree.BodyTree.TheVariants as body
use Rattle.design_lexer.specs.declared.tree.BranchTree.{BranchTree}
use Rattle.design_lexer.specs.declared.tree.File.{File}
use Rattle.design_lexer.specs.declared.tree.File.TheVariants as file
use Rattle.design_lexer.specs.declared.tree.RefTree.{RefTree, out-RefTree}
use Rattle.design_model.specs.declared.design.CatRow.{CatRow}
use Rattle.design_model.specs.declared.expr.Constraint.{Constraint}
use Rattle.value_type.specs.declared.port.Port.{Port}

-- What a design or template says apart from its references: its ports, its rows where it is a catalogue, and its constraints where it is a net.
pub record Content : Type 0 where
  pub provides : List Port
  pub requires_ : List Port
  pub rows : List CatRow
  pub constraints : List Constraint

-- A file: its stem, its tree, and what it says apart from its references.
pub record Source : Type 0 where
  pub stem : List ℕ
  pub tree : File
  pub content : Content

-- the body of a design or a template
abbrev pub body_of : File → Option BodyTree
body_of (file.Poset poset) = None
body_of (file.Interface ports) = None
body_of (file.Design body) = Some body
body_of (file.Template params body) = Some body

-- the names of the parameters of a file
abbrev pub params_of : File → List (List ℕ)
params_of (file.Poset poset) = []
params_of (file.Interface ports) = []
params_of (file.Design body) = []
params_of (file.Template params body) = map (λ p. p.name.name) params

-- the branches or instances of a body
abbrev pub branches_of : BodyTree → List BranchTree
branches_of (body.Catalogue ports rows table) = []
branches_of (body.Choose branches) = branches
branches_of (body.Net ports instances rules) = instances

-- A design, which has no parameters.
abbrev pub is_closed : File → Bool
is_closed (file.Poset poset) = false
is_closed (file.Interface ports) = false
is_closed (file.Design body) = true
is_closed (file.Template params body) = false

-- the place of the first design or template of this name
abbrev pub source_place : List Source → List ℕ → Option ℕ
source_place sources name = position_from (λ s. is_some (body_of s.tree) && bytes_eq name s.stem) 0 sources

-- the design or template of this name
abbrev pub source_named : List Source → List ℕ → Option Source
source_named sources name = option_and_then (slice_get sources) (source_place sources name)

-- the design of this name
abbrev pub design_named : List Source → List ℕ → Option Source
design_named sources name = find (λ s. is_closed s.tree && bytes_eq name s.stem) sources

-- the name of what is referred to
abbrev pub name_of : RefTree → List ℕ
name_of q = (out-RefTree q).name.name

abbrev pub arguments_of : RefTree → List ArgTree
arguments_of q = (out-RefTree q).arguments

-- the name of the parameter that the argument is for
abbrev pub parameter_of : ArgTree → List ℕ
parameter_of a = (out-ArgTree a).name.name

-- what the argument refers to
abbrev pub argument_of : ArgTree → RefTree
argument_of a = (out-ArgTree a).reference

-- The name is one of these.
abbrev pub is_among : List (List ℕ) → List ℕ → Bool
is_among names name = list_any (bytes_eq name) names

-- what is given for the parameter of this name
abbrev pub given : List ArgTree → List ℕ → Option ArgTree
given arguments name = find (λ a. bytes_eq name (parameter_of a)) arguments

-- The arguments are given for exactly the parameters.
abbrev pub GiveEach : List (List ℕ) → List ArgTree → Type 0
GiveEach params arguments = (name : List ℕ) → is_among params name ≡ is_some (given arguments name)
