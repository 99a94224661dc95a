-- Whether the ports of a net are connected.
use Rattle.std.specs.Prelude.{ℕ, Bool, true, false, ◌&&◌, not, List, [], ◌∷◌, ◌++◌, Option, Some, None}
use Rattle.std.specs.List.{flat_map, list_all, list_any}
use Rattle.std.specs.Str.{bytes_eq}
use Rattle.design_lexer.specs.Sides.{same_side}
use Rattle.design_lexer.specs.declared.tree.BodyTree.{BodyTree}
use Rattle.design_lexer.specs.declared.tree.BodyTree.TheVariants as body
use Rattle.design_lexer.specs.declared.tree.BranchTree.{BranchTree}
use Rattle.design_lexer.specs.declared.tree.ExprTree.{ExprTree, fold-ExprTree}
use Rattle.design_lexer.specs.declared.tree.ExprTree.TheOpen.{ExprTree-F}
use Rattle.design_lexer.specs.declared.tree.File.{File}
use Rattle.design_lexer.specs.declared.tree.File.TheVariants as file
use Rattle.design_lexer.specs.declared.tree.NameAt.{NameAt}
use Rattle.design_lexer.specs.declared.tree.ParamTree.{ParamTree}
use Rattle.design_lexer.specs.declared.tree.PlaceTree.{PlaceTree}
use Rattle.design_lexer.specs.declared.tree.PortTree.{PortTree}
use Rattle.design_lexer.specs.declared.tree.RuleTree.{RuleTree}
use Rattle.design_lexer.specs.declared.tree.RuleTree.TheVariants as rule
use Rattle.design_lexer.specs.declared.tree.Side.{Side}
use Rattle.design_lexer.specs.declared.tree.Side.TheVariants.{Provides, Requires}
use Rattle.fault_list.specs.Faults.{fault_if, in_file}
use Rattle.fault_list.specs.declared.fault.Fault.{Fault}
use Rattle.fault_list.specs.declared.fault.FaultKind.TheVariants.{Unconnected}
use Rattle.fault_list.specs.declared.fault.FileFault.{FileFault}
use Rattle.name_table.specs.declared.source.SourceFile.{SourceFile}
use Rattle.unit_check.specs.Declaring.{part_ports}

abbrev pub is_alone : Option NameAt → Bool
is_alone None = true
is_alone (Some second) = false

-- The place is an own port of this name.
abbrev pub is_own : List ℕ → PlaceTree → Bool
is_own port place = is_alone place.second && bytes_eq port place.first.name

abbrev pub is_second : List ℕ → Option NameAt → Bool
is_second port (Some second) = bytes_eq port second.name
is_second port None = false

-- The place is the port of this name of the part of this name.
abbrev pub is_of_part : List ℕ → List ℕ → PlaceTree → Bool
is_of_part part port place = bytes_eq part place.first.name && is_second port place.second

-- one level of an expression, with the places of its operands and parts in their place
abbrev pub places_step : ExprTree-F (List PlaceTree) → List PlaceTree
places_step (ExprTree-F.Constant constant) = []
places_step (ExprTree-F.Place place) = place ∷ []
places_step (ExprTree-F.Element poset element) = []
places_step (ExprTree-F.Upper poset elements) = []
places_step (ExprTree-F.Sum left right at) = left ++ right
places_step (ExprTree-F.Product left right at) = left ++ right
places_step (ExprTree-F.Greatest left right at) = left ++ right
places_step (ExprTree-F.Lesser left right at) = left ++ right
places_step (ExprTree-F.Tuple parts at) = flat_map (λ places. places) parts

-- the places that an expression reads
abbrev pub places_in : ExprTree → List PlaceTree
places_in = fold-ExprTree (List PlaceTree) places_step

-- the port that a rule constrains or ignores
abbrev pub placed : RuleTree → PlaceTree
placed (rule.Above place lower) = place
placed (rule.Ignore place) = place

-- the ports that a rule reads or ignores
abbrev pub read : RuleTree → List PlaceTree
read (rule.Above place lower) = places_in lower
read (rule.Ignore place) = place ∷ []

-- A rule constrains or ignores the port.
abbrev pub is_placed : List RuleTree → (PlaceTree → Bool) → Bool
is_placed rules port = list_any (λ r. port (placed r)) rules

-- A rule reads or ignores the port.
abbrev pub is_read : List RuleTree → (PlaceTree → Bool) → Bool
is_read rules port = list_any port (flat_map read rules)

-- whether it is connected, by its side
abbrev pub side_connected : Side → Bool → Bool → Bool
side_connected Provides placed read = placed
side_connected Requires placed read = read

-- A port of a part is connected: a provided one is constrained or ignored, and a required one read or ignored.
abbrev pub is_connected : List RuleTree → List ℕ → PortTree → Bool
is_connected rules part port = side_connected port.side (is_placed rules (is_of_part part port.name.name)) (is_read rules (is_of_part part port.name.name))

abbrev pub unconnected : NameAt → Fault
unconnected name = record { kind = Unconnected; at = name.at }

-- an own required port that no rule constrains or ignores
abbrev pub own_unconnected : List RuleTree → PortTree → List Fault
own_unconnected rules port = fault_if (same_side Requires port.side && not (is_placed rules (is_own port.name.name))) (unconnected port.name)

-- an instance of which some port isn't connected
abbrev pub part_unconnected : List SourceFile → List ParamTree → List RuleTree → BranchTree → List Fault
part_unconnected files params rules part = fault_if (not (list_all (is_connected rules part.name.name) (part_ports files params part))) (unconnected part.name)

-- the own required ports of a net that aren't connected, and then its instances
abbrev pub body_unconnected : List SourceFile → List ParamTree → BodyTree → List Fault
body_unconnected files params (body.Net ports parts rules) = flat_map (own_unconnected rules) ports ++ flat_map (part_unconnected files params rules) parts
body_unconnected files params _ = []

abbrev pub file_unconnected : List SourceFile → File → List Fault
file_unconnected files (file.Design b) = body_unconnected files [] b
file_unconnected files (file.Template params b) = body_unconnected files params b
file_unconnected files _ = []

-- the ports of a library that aren't connected, file by file
abbrev pub connection_faults : List SourceFile → List FileFault
connection_faults files = flat_map (λ f. in_file f.name (file_unconnected files f.tree)) files
