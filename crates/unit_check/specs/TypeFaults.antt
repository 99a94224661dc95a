-- What is wrong with the types of a library.
use Rattle.std.specs.Prelude.{◌+◌, ℕ, List, [], ◌∷◌, ◌++◌, Option, Some, None, slice_get}
use Rattle.std.specs.List.{flat_map}
use Rattle.design_lexer.specs.declared.tree.BodyTree.{BodyTree}
use Rattle.design_lexer.specs.declared.tree.BodyTree.TheVariants as body
use Rattle.design_lexer.specs.declared.tree.BranchTree.{BranchTree}
use Rattle.design_lexer.specs.declared.tree.File.{File}
use Rattle.design_lexer.specs.declared.tree.File.TheVariants as file
use Rattle.design_lexer.specs.declared.tree.ParamTree.{ParamTree}
use Rattle.design_lexer.specs.declared.tree.RuleTree.{RuleTree}
use Rattle.fault_list.specs.Faults.{in_file}
use Rattle.fault_list.specs.declared.fault.FileFault.{FileFault}
use Rattle.name_table.specs.declared.source.SourceFile.{SourceFile}
use Rattle.tree_units.specs.Ports.{port_faults}
use Rattle.tree_units.specs.Posets.{poset_place}
use Rattle.unit_check.specs.Declaring.{declaring, params_of, part_file, parts_of, ports_in}
use Rattle.unit_check.specs.Rules.{rules_faults}
use Rattle.unit_check.specs.Scopes.{scope_at}
use Rattle.value_type.specs.declared.poset.Types.{Types}

-- the faults of the ports that a file declares
abbrev pub file_port_faults : Types → SourceFile → List FileFault
file_port_faults types f = in_file f.name (flat_map (port_faults (poset_place types)) (ports_in f.tree))

abbrev pub rules_in : BodyTree → List RuleTree
rules_in (body.Net ports parts rules) = rules
rules_in _ = []

-- the rules of a file, if it is a net
abbrev pub rules_of : File → List RuleTree
rules_of (file.Design b) = rules_in b
rules_of (file.Template params b) = rules_in b
rules_of _ = []

-- the faults of the rules of this file, which is the one of this number
abbrev pub file_rule_faults : List SourceFile → Types → ℕ → SourceFile → List FileFault
file_rule_faults files types i f = in_file f.name (rules_faults types (scope_at files types i f.tree) (rules_of f.tree))

-- the faults of the rules of the files from number i on
abbrev pub rule_faults_from : List SourceFile → Types → ℕ → List SourceFile → List FileFault
rule_faults_from all types i [] = []
rule_faults_from all types i (f ∷ files) = file_rule_faults all types i f ++ rule_faults_from all types (i + 1) files

-- First the ports of all files, and then their rules.
abbrev pub type_faults : List SourceFile → Types → List FileFault
type_faults files types = flat_map (file_port_faults types) files ++ rule_faults_from files types 0 files

-- ---- the faults of the ports in one scope

abbrev pub declared_by : Types → Option SourceFile → List FileFault
declared_by types (Some f) = file_port_faults types f
declared_by types None = []

-- the faults of the ports that the file of this number declares
abbrev pub declared_faults : List SourceFile → Types → ℕ → List FileFault
declared_faults files types i = declared_by types (slice_get files i)

abbrev pub named_faults : List SourceFile → Types → Option ℕ → List FileFault
named_faults files types (Some i) = declared_faults files types (declaring files i)
named_faults files types None = []

-- the faults of the ports of a branch or an instance, in the file that declares them
abbrev pub part_faults : List SourceFile → Types → List ParamTree → BranchTree → List FileFault
part_faults files types params part = named_faults files types (part_file files params part)

-- the faults of a file's own ports, and then those of its branches or instances
abbrev pub scope_faults : List SourceFile → Types → ℕ → File → List FileFault
scope_faults files types i f = declared_faults files types (declaring files i) ++ flat_map (part_faults files types (params_of f)) (parts_of f)
