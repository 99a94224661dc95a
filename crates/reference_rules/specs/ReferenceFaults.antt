-- The faults of references, in the order in which the first of them is answered.
use Rattle.std.specs.Prelude.{◌≡◌, ℕ, not, List, [], ◌∷◌, ◌++◌, map, find, Option, Some, None}
use Rattle.std.specs.List.{flat_map, list_any}
use Rattle.std.specs.Str.{bytes_eq}
use Rattle.design_lexer.specs.declared.tree.BodyTree.{BodyTree}
use Rattle.design_lexer.specs.declared.tree.BodyTree.TheVariants as body
use Rattle.design_lexer.specs.declared.tree.BranchTree.{BranchTree}
use Rattle.design_lexer.specs.declared.tree.NameAt.{NameAt}
use Rattle.design_lexer.specs.declared.tree.RefTree.{RefTree, RefTree-F, fold-RefTree}
use Rattle.fault_list.specs.Faults.{fault_if, fault_unless}
use Rattle.fault_list.specs.declared.fault.Fault.{Fault}
use Rattle.fault_list.specs.declared.fault.FaultKind.TheVariants.{ArgumentMissing, ArgumentUnknown, PortsDiffer, Unknown}
use Rattle.reference_meaning.specs.Sources.{Content, Source, body_of, name_of, params_of, source_named}
use Rattle.reference_rules.specs.Outlines.{Outlines, outlines, same_outlines}

-- A parameter, and the ports of its interface.
pub record Wanted : Type 0 where
  pub name : List ℕ
  pub ports : Outlines

-- What references need to know of a design or template: its parameters, and its ports, which are those that it declares, and of a choice those of what its first branch names.
pub record Front : Type 0 where
  pub wanted : List Wanted
  pub ports : Outlines

-- What a reference is found to be: its place, its ports and its faults.
pub record Referred : Type 0 where
  pub at : ℕ
  pub ports : Outlines
  pub faults : List Fault

-- An argument: its name, and what it refers to.
pub record Argued : Type 0 where
  pub name : NameAt
  pub referred : Referred

abbrev pub param_named : List Wanted → List ℕ → Option Wanted
param_named params name = find (λ w. bytes_eq name w.name) params

abbrev pub wanted_in : Option Front → List Wanted
wanted_in (Some f) = f.wanted
wanted_in None = []

abbrev pub ports_in : Option Front → Outlines
ports_in (Some f) = f.ports
ports_in None = record { provides = []; requires_ = [] }

-- the parameters of what is referred to; a parameter has none
abbrev pub wanted_by : (List ℕ → Option Front) → Option Wanted → List ℕ → List Wanted
wanted_by front (Some w) name = []
wanted_by front None name = wanted_in (front name)

-- the ports of what is referred to; those of a parameter are its interface's
abbrev pub ports_by : (List ℕ → Option Front) → Option Wanted → List ℕ → Outlines
ports_by front (Some w) name = w.ports
ports_by front None name = ports_in (front name)

abbrev pub unknown_argument : NameAt → Fault
unknown_argument name = record { kind = ArgumentUnknown; at = name.at }

-- The argument names no parameter.
abbrev pub unknown : List Wanted → NameAt → List Fault
unknown wanted name = fault_if (not (list_any (λ w. bytes_eq name.name w.name) wanted)) (unknown_argument name)

-- Some parameter has no argument.
abbrev pub missing : List Wanted → List NameAt → ℕ → List Fault
missing wanted names at = fault_if (list_any (λ w. not (list_any (λ n. bytes_eq w.name n.name) names)) wanted) (record { kind = ArgumentMissing; at = at })

-- the faults of the names of the arguments
abbrev pub given_faults : List Wanted → List NameAt → ℕ → List Fault
given_faults wanted names at = flat_map (unknown wanted) names ++ missing wanted names at

-- The ports aren't those that are wanted.
abbrev pub differing : Outlines → Outlines → ℕ → List Fault
differing wanted ports at = fault_if (not (same_outlines wanted ports)) (record { kind = PortsDiffer; at = at })

-- The argument's ports aren't those of the parameter's interface.
abbrev pub unmatched : Option Wanted → Referred → List Fault
unmatched (Some w) r = differing w.ports r.ports r.at
unmatched None r = []

-- for each argument its own reference, and then its match
abbrev pub argument_faults : List Wanted → Argued → List Fault
argument_faults wanted a = a.referred.faults ++ unmatched (param_named wanted a.name.name) a.referred

-- The name is neither a parameter nor a design or template. The rules of names refuse it before.
abbrev pub unplaced : (List ℕ → Option Front) → Option Wanted → NameAt → List Fault
unplaced front (Some w) name = []
unplaced front None name = fault_unless (front name.name) (record { kind = Unknown; at = name.at })

module _ (front : List ℕ → Option Front) (params : List Wanted) where
  -- one level of a reference, with what its arguments are found to be in their place
  abbrev pub refer_step : RefTree-F Argued Referred → Referred
  refer_step q = record {
    at = q.name.at;
    ports = ports_by front (param_named params q.name.name) q.name.name;
    faults = unplaced front (param_named params q.name.name) q.name
        ++ given_faults (wanted_by front (param_named params q.name.name) q.name.name) (map (λ a. a.name) q.arguments) q.name.at
        ++ flat_map (argument_faults (wanted_by front (param_named params q.name.name) q.name.name)) q.arguments;
  }

  abbrev pub referred : RefTree → Referred
  referred = fold-RefTree Argued Referred (λ a. record { name = a.name; referred = a.reference }) refer_step

  -- The branch's own faults, and then that its ports aren't these.
  abbrev pub branch_faults : Outlines → BranchTree → List Fault
  branch_faults ports b = (referred b.reference).faults ++ differing ports (referred b.reference).ports (referred b.reference).at

  abbrev pub choice_faults : List BranchTree → List Fault
  choice_faults [] = []
  choice_faults (b ∷ bs) = (referred b.reference).faults ++ flat_map (branch_faults (referred b.reference).ports) bs

  -- the faults of a body's references, in order
  abbrev pub reference_faults : BodyTree → List Fault
  reference_faults (body.Catalogue ports rows table) = []
  reference_faults (body.Choose branches) = choice_faults branches
  reference_faults (body.Net ports instances rules) = flat_map (λ b. (referred b.reference).faults) instances

-- the ports of a body, known without what its references denote
abbrev pub body_ports : (List ℕ → Option Front) → List Wanted → Content → BodyTree → Outlines
body_ports front params c (body.Catalogue ports rows table) = record { provides = outlines c.provides; requires_ = outlines c.requires_ }
body_ports front params c (body.Choose []) = record { provides = []; requires_ = [] }
body_ports front params c (body.Choose (b ∷ bs)) = ports_by front (param_named params (name_of b.reference)) (name_of b.reference)
body_ports front params c (body.Net ports instances rules) = record { provides = outlines c.provides; requires_ = outlines c.requires_ }

-- This is what is known of the file.
pub record IsFront (front : List ℕ → Option Front) (f : Front) (source : Source) (b : BodyTree) : Type 0 where
  pub params : map (λ w. w.name) f.wanted ≡ params_of source.tree
  pub ports : f.ports ≡ body_ports front f.wanted source.content b

-- Of each design and template this is known.
abbrev pub AreFronts : List Source → (List ℕ → Option Front) → Type 0
AreFronts sources front = (name : List ℕ) (source : Source) (b : BodyTree) → source_named sources name ≡ Some source → body_of source.tree ≡ Some b → (f : Front) × (front name ≡ Some f) × IsFront front f source b

-- No file's references have a fault.
abbrev pub NoFaults : List Source → (List ℕ → Option Front) → Type 0
NoFaults sources front = (name : List ℕ) (source : Source) (b : BodyTree) (f : Front) → source_named sources name ≡ Some source → body_of source.tree ≡ Some b → front name ≡ Some f → reference_faults front f.wanted b ≡ []
