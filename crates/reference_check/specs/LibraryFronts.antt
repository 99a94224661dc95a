-- The fronts of a library's files, and the faults of its references.
use Rattle.std.specs.Prelude.{◌≡◌, ◌+◌, ℕ, List, [], ◌∷◌, map, Option, Some, None, cond, option_and_then, slice_get}
use Rattle.std.specs.List.{flat_map}
use Rattle.design_lexer.specs.declared.tree.File.{File}
use Rattle.design_lexer.specs.declared.tree.File.TheVariants as file
use Rattle.design_lexer.specs.declared.tree.ParamTree.{ParamTree}
use Rattle.fault_list.specs.Faults.{in_file}
use Rattle.fault_list.specs.declared.fault.Fault.{Fault}
use Rattle.fault_list.specs.declared.fault.FileFault.{FileFault}
use Rattle.name_table.specs.Files.{is_design, is_interface, stem_place}
use Rattle.name_table.specs.declared.source.SourceFile.{SourceFile}
use Rattle.reference_check.specs.Fronts.{front_in, sides_outlined}
use Rattle.reference_check.specs.declared.front.Front as held
use Rattle.reference_rules.specs.ReferenceFaults.{Front, Wanted, reference_faults}
use Rattle.side_ports.specs.Sides.{sides_of}
use Rattle.unit_check.specs.Declaring.{params_of, ports_at, ports_of}
use Rattle.value_type.specs.declared.poset.Types.{Types}

-- a parameter, with the ports of its interface
abbrev pub wanted_of : List SourceFile → Types → ParamTree → Wanted
wanted_of files types param = record { name = param.name.name; ports = sides_outlined (sides_of types (ports_of files (stem_place is_interface files param.interface.name))) }

-- the front of this file, which is the one of this number, if it is a design or template
abbrev pub front_at : List SourceFile → Types → ℕ → File → Option Front
front_at files types i tree = cond (is_design tree) (Some (record { wanted = map (wanted_of files types) (params_of tree); ports = sides_outlined (sides_of types (ports_at files i)) })) None

abbrev pub front_by : List SourceFile → Types → ℕ → Option SourceFile → Option Front
front_by files types i (Some f) = front_at files types i f.tree
front_by files types i None = None

-- the front of the design or template of this name
abbrev pub front_of : List SourceFile → Types → List ℕ → Option Front
front_of files types name = option_and_then (λ i. front_by files types i (slice_get files i)) (stem_place is_design files name)

-- the fronts of the files from number i on
abbrev pub fronts_from : List SourceFile → Types → ℕ → List SourceFile → List (Option Front)
fronts_from all types i [] = []
fronts_from all types i (f ∷ files) = front_at all types i f.tree ∷ fronts_from all types (i + 1) files

-- Each file's front is known, under its number.
abbrev pub AreFrontsOf : List SourceFile → Types → List (Option held.Front) → Type 0
AreFrontsOf files types fronts = (i : ℕ) → front_in (slice_get fronts i) ≡ front_by files types i (slice_get files i)

-- the faults of a file's references, where these are the fronts of names and its own parameters
abbrev pub tree_faults : (List ℕ → Option Front) → List Wanted → File → List Fault
tree_faults front wanted (file.Poset poset) = []
tree_faults front wanted (file.Interface ports) = []
tree_faults front wanted (file.Design b) = reference_faults front wanted b
tree_faults front wanted (file.Template params b) = reference_faults front wanted b

-- the faults of a library's references, file by file
abbrev pub library_faults : List SourceFile → Types → List FileFault
library_faults files types = flat_map (λ f. in_file f.name (tree_faults (front_of files types) (map (wanted_of files types) (params_of f.tree)) f.tree)) files
