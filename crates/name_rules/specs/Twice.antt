-- Names that stand twice where they may stand once.
use Rattle.std.specs.Prelude.{ℕ, Bool, List, [], ◌∷◌, ◌++◌, filter, map, max, Option, Some, None}
use Rattle.std.specs.List.{flat_map, list_any}
use Rattle.std.specs.Str.{bytes_eq}
use Rattle.design_lexer.specs.Sides.{same_side}
use Rattle.design_lexer.specs.declared.tree.BodyTree.{BodyTree}
use Rattle.design_lexer.specs.declared.tree.BodyTree.TheVariants as body
use Rattle.design_lexer.specs.declared.tree.BranchTree.{BranchTree}
use Rattle.design_lexer.specs.declared.tree.File.{File}
use Rattle.design_lexer.specs.declared.tree.File.TheVariants as file
use Rattle.design_lexer.specs.declared.tree.NameAt.{NameAt}
use Rattle.design_lexer.specs.declared.tree.PortTree.{PortTree}
use Rattle.design_lexer.specs.declared.tree.RefTree.{RefTree, fold-RefTree}
use Rattle.design_lexer.specs.declared.tree.Side.{Side}
use Rattle.design_lexer.specs.declared.tree.Side.TheVariants.{Provides, Requires}
use Rattle.fault_list.specs.Faults.{fault_if}
use Rattle.fault_list.specs.declared.fault.Fault.{Fault}
use Rattle.fault_list.specs.declared.fault.FaultKind.TheVariants.{Twice}
use Rattle.name_rules.specs.Places.{named_item}

-- the fault of a name that stands twice
abbrev pub twice : NameAt → Fault
twice name = record { kind = Twice; at = name.at }

-- some listed name is this one
abbrev pub is_listed : List NameAt → List ℕ → Bool
is_listed names name = list_any (λ m. bytes_eq name m.name) names

-- Each name that is among those before it stands twice.
abbrev pub repeats : List NameAt → List NameAt → List Fault
repeats before [] = []
repeats before (n ∷ names) = fault_if (is_listed before n.name) (twice n) ++ repeats (before ++ n ∷ []) names

-- the names of the ports of one side
abbrev pub port_names : Side → List PortTree → List NameAt
port_names side ports = map (λ p. p.name) (filter (λ p. same_side side p.side) ports)

-- The provided ports and the required ports are two lists of names.
abbrev pub port_repeats : List PortTree → List Fault
port_repeats ports = repeats [] (port_names Provides ports) ++ repeats [] (port_names Requires ports)

-- the names of a reference's arguments, and then those within each argument
abbrev pub reference_repeats : RefTree → List Fault
reference_repeats = fold-RefTree (NameAt × List Fault) (List Fault) (λ a. (a.name, a.reference)) (λ r. repeats [] (map (λ a. a.0) r.arguments) ++ flat_map (λ a. a.1) r.arguments)

-- those of the references of branches or instances
abbrev pub branch_repeats : List BranchTree → List Fault
branch_repeats branches = flat_map (λ b. reference_repeats b.reference) branches

-- The later of an instance and a port of its name stands twice.
abbrev pub shared_fault : NameAt → Option PortTree → List Fault
shared_fault name None = []
shared_fault name (Some port) = record { kind = Twice; at = max name.at port.name.at } ∷ []

-- each instance with the first port of its name, if there is one
abbrev pub shared : List PortTree → List BranchTree → List Fault
shared ports parts = flat_map (λ b. shared_fault b.name (named_item (λ p. p.name) ports b.name.name)) parts

abbrev pub body_repeats : BodyTree → List Fault
body_repeats (body.Catalogue ports rows table) = port_repeats ports ++ repeats [] (map (λ r. r.name) rows)
body_repeats (body.Choose branches) = repeats [] (map (λ b. b.name) branches) ++ branch_repeats branches
body_repeats (body.Net ports parts rules) = port_repeats ports ++ repeats [] (map (λ b. b.name) parts) ++ shared ports parts ++ branch_repeats parts

-- the names of a file that stand twice
abbrev pub twice_faults : File → List Fault
twice_faults (file.Poset poset) = repeats [] poset.elements
twice_faults (file.Interface ports) = port_repeats ports
twice_faults (file.Design b) = body_repeats b
twice_faults (file.Template params b) = repeats [] (map (λ p. p.name) params) ++ body_repeats b
