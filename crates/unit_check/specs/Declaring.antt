-- Which file declares the ports that a name stands for.
use Rattle.std.specs.Prelude.{◌+◌, ℕ, List, [], ◌∷◌, Option, Some, None, length, option_and_then, slice_get}
use Rattle.design_lexer.specs.declared.tree.BodyTree.{BodyTree}
use Rattle.design_lexer.specs.declared.tree.BodyTree.TheVariants as body
use Rattle.design_lexer.specs.declared.tree.BranchTree.{BranchTree}
use Rattle.design_lexer.specs.declared.tree.File.{File}
use Rattle.design_lexer.specs.declared.tree.File.TheVariants as file
use Rattle.design_lexer.specs.declared.tree.ParamTree.{ParamTree}
use Rattle.design_lexer.specs.declared.tree.PortTree.{PortTree}
use Rattle.design_lexer.specs.declared.tree.RefTree.{out-RefTree}
use Rattle.name_rules.specs.Places.{named_item}
use Rattle.name_table.specs.Files.{is_design, is_interface, stem_place}
use Rattle.name_table.specs.References.{branches_of}
use Rattle.name_table.specs.declared.source.SourceFile.{SourceFile}
use Rattle.unit_check.specs.Follow.{follow}

abbrev pub params_of : File → List ParamTree
params_of (file.Template params b) = params
params_of _ = []

-- the branches or instances of a file
abbrev pub parts_of : File → List BranchTree
parts_of (file.Design b) = branches_of b
parts_of (file.Template params b) = branches_of b
parts_of _ = []

-- the file that a name stands for: the interface of the parameter that has it, or else the design or template
abbrev pub file_of : List SourceFile → List ℕ → Option ParamTree → Option ℕ
file_of files name (Some p) = stem_place is_interface files p.interface.name
file_of files name None = stem_place is_design files name

abbrev pub named_file : List SourceFile → List ParamTree → List ℕ → Option ℕ
named_file files params name = file_of files name (named_item (λ p. p.name) params name)

-- the file that a branch or an instance names
abbrev pub part_file : List SourceFile → List ParamTree → BranchTree → Option ℕ
part_file files params part = named_file files params (out-RefTree part.reference).name.name

abbrev pub first_branch : BodyTree → Option BranchTree
first_branch (body.Choose (b ∷ branches)) = Some b
first_branch _ = None

-- the first branch of a file that is a choice
abbrev pub choice_of : File → Option BranchTree
choice_of (file.Design b) = first_branch b
choice_of (file.Template params b) = first_branch b
choice_of _ = None

-- A choice has the ports of what its first branch names: the number of that file.
abbrev pub next_in : List SourceFile → File → Option ℕ
next_in files f = option_and_then (part_file files (params_of f)) (choice_of f)

abbrev pub next_file : List SourceFile → ℕ → Option ℕ
next_file files i = option_and_then (λ f. next_in files f.tree) (slice_get files i)

-- the number of the file that declares the ports of a file; no way is longer than there are files
abbrev pub declaring : List SourceFile → ℕ → ℕ
declaring files i = follow (next_file files) (length files + 1) i

abbrev pub body_ports : BodyTree → List PortTree
body_ports (body.Catalogue ports rows table) = ports
body_ports (body.Choose branches) = []
body_ports (body.Net ports parts rules) = ports

-- the ports that a file declares
abbrev pub ports_in : File → List PortTree
ports_in (file.Poset poset) = []
ports_in (file.Interface ports) = ports
ports_in (file.Design b) = body_ports b
ports_in (file.Template params b) = body_ports b

abbrev pub tree_ports : Option SourceFile → List PortTree
tree_ports (Some f) = ports_in f.tree
tree_ports None = []

-- the ports of the file of this number
abbrev pub ports_at : List SourceFile → ℕ → List PortTree
ports_at files i = tree_ports (slice_get files (declaring files i))

-- the ports that a name stands for
abbrev pub ports_of : List SourceFile → Option ℕ → List PortTree
ports_of files (Some i) = ports_at files i
ports_of files None = []

-- the ports of a branch or an instance: those of what its reference names, known without its arguments
abbrev pub part_ports : List SourceFile → List ParamTree → BranchTree → List PortTree
part_ports files params part = ports_of files (part_file files params part)
