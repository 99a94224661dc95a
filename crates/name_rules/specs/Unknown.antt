-- Names that lead nowhere.
use Rattle.std.specs.Prelude.{ℕ, Bool, ◌||◌, cond, not, List, [], ◌∷◌, ◌++◌, map, Option, Some, None}
use Rattle.std.specs.List.{flat_map}
use Rattle.design_lexer.specs.declared.tree.BodyTree.{BodyTree}
use Rattle.design_lexer.specs.declared.tree.BodyTree.TheVariants as body
use Rattle.design_lexer.specs.declared.tree.BranchTree.{BranchTree}
use Rattle.design_lexer.specs.declared.tree.ExprTree.{ExprTree, fold-ExprTree}
use Rattle.design_lexer.specs.declared.tree.ExprTree.TheOpen.{ExprTree-F}
use Rattle.design_lexer.specs.declared.tree.FactorTree.{FactorTree}
use Rattle.design_lexer.specs.declared.tree.File.{File}
use Rattle.design_lexer.specs.declared.tree.File.TheVariants as file
use Rattle.design_lexer.specs.declared.tree.NameAt.{NameAt}
use Rattle.design_lexer.specs.declared.tree.ParamTree.{ParamTree}
use Rattle.design_lexer.specs.declared.tree.PortTree.{PortTree}
use Rattle.design_lexer.specs.declared.tree.RefTree.{RefTree}
use Rattle.design_lexer.specs.declared.tree.RuleTree.{RuleTree}
use Rattle.design_lexer.specs.declared.tree.RuleTree.TheVariants as rule
use Rattle.design_lexer.specs.declared.tree.TypeTree.{TypeTree, fold-TypeTree}
use Rattle.design_lexer.specs.declared.tree.TypeTree.TheOpen.{TypeTree-F}
use Rattle.fault_list.specs.Faults.{fault_if, fault_unless}
use Rattle.fault_list.specs.declared.fault.Fault.{Fault}
use Rattle.fault_list.specs.declared.fault.FaultKind.TheVariants.{Unknown}
use Rattle.name_rules.specs.Known.{Known}
use Rattle.name_rules.specs.References.{reference_names}
use Rattle.name_rules.specs.Twice.{is_listed}
use Rattle.unit_core.specs.UnitTable.{unit_named}

-- the fault of a name that leads nowhere
abbrev pub unknown : NameAt → Fault
unknown name = record { kind = Unknown; at = name.at }

-- the name's fault, where the test doesn't find it
abbrev pub unknown_unless : (List ℕ → Bool) → NameAt → List Fault
unknown_unless finds name = fault_if (not (finds name.name)) (unknown name)

abbrev pub unknown_names : (List ℕ → Bool) → List NameAt → List Fault
unknown_names finds names = flat_map (unknown_unless finds) names

-- the factors' names that no unit has
abbrev pub unknown_units : List FactorTree → List Fault
unknown_units factors = flat_map (λ f. fault_unless (unit_named f.name.name) (unknown f.name)) factors

-- one level of a type, with the faults of its parts in their place
abbrev pub type_step : Known → TypeTree-F (List Fault) → List Fault
type_step known TypeTree-F.Nat = []
type_step known (TypeTree-F.Unit factors) = unknown_units factors
type_step known (TypeTree-F.Poset name) = unknown_unless known.poset name
type_step known (TypeTree-F.Up name) = unknown_unless known.poset name
type_step known (TypeTree-F.Product parts) = flat_map (λ faults. faults) parts

-- the units and posets of a type
abbrev pub type_unknown : Known → TypeTree → List Fault
type_unknown known = fold-TypeTree (List Fault) (type_step known)

abbrev pub ports_unknown : Known → List PortTree → List Fault
ports_unknown known ports = flat_map (λ p. type_unknown known p.kind) ports

-- The poset of a literal, if it is not there, and otherwise the elements that it lacks.
abbrev pub literal_unknown : Known → NameAt → List NameAt → List Fault
literal_unknown known poset elements = cond (known.poset poset.name) (unknown_names (known.element poset.name) elements) (unknown poset ∷ [])

-- one level of an expression, with the faults of its operands and parts in their place
abbrev pub expr_step : Known → ExprTree-F (List Fault) → List Fault
expr_step known (ExprTree-F.Constant constant) = unknown_units constant.unit
expr_step known (ExprTree-F.Place place) = []
expr_step known (ExprTree-F.Element poset element) = literal_unknown known poset (element ∷ [])
expr_step known (ExprTree-F.Upper poset elements) = literal_unknown known poset elements
expr_step known (ExprTree-F.Sum left right at) = left ++ right
expr_step known (ExprTree-F.Product left right at) = left ++ right
expr_step known (ExprTree-F.Greatest left right at) = left ++ right
expr_step known (ExprTree-F.Lesser left right at) = left ++ right
expr_step known (ExprTree-F.Tuple parts at) = flat_map (λ faults. faults) parts

-- the units and literals of an expression
abbrev pub expr_unknown : Known → ExprTree → List Fault
expr_unknown known = fold-ExprTree (List Fault) (expr_step known)

abbrev pub rule_unknown : Known → RuleTree → List Fault
rule_unknown known (rule.Above place lower) = expr_unknown known lower
rule_unknown known (rule.Ignore place) = []

abbrev pub rules_unknown : Known → List RuleTree → List Fault
rules_unknown known rules = flat_map (rule_unknown known) rules

-- Some parameter has the name.
abbrev pub is_param : List ParamTree → List ℕ → Bool
is_param params name = is_listed (map (λ p. p.name) params) name

-- the names of a reference that neither a parameter has nor a design or template
abbrev pub reference_unknown : Known → List ParamTree → RefTree → List Fault
reference_unknown known params r = unknown_names (λ name. is_param params name || known.design name) (reference_names r)

-- those of the references of branches or instances
abbrev pub branches_unknown : Known → List ParamTree → List BranchTree → List Fault
branches_unknown known params branches = flat_map (λ b. reference_unknown known params b.reference) branches

-- the table that a catalogue names
abbrev pub table_unknown : Known → Option NameAt → List Fault
table_unknown known None = []
table_unknown known (Some table) = unknown_unless known.table table

abbrev pub body_unknown : Known → List ParamTree → BodyTree → List Fault
body_unknown known params (body.Catalogue ports rows table) = ports_unknown known ports ++ table_unknown known table
body_unknown known params (body.Choose branches) = branches_unknown known params branches
body_unknown known params (body.Net ports parts rules) = ports_unknown known ports ++ branches_unknown known params parts ++ rules_unknown known rules

-- the names of a file that lead nowhere
abbrev pub unknown_faults : Known → File → List Fault
unknown_faults known (file.Poset poset) = flat_map (unknown_names (is_listed poset.elements)) poset.chains
unknown_faults known (file.Interface ports) = ports_unknown known ports
unknown_faults known (file.Design b) = body_unknown known [] b
unknown_faults known (file.Template params b) = unknown_names known.interface (map (λ p. p.interface) params) ++ body_unknown known params b
