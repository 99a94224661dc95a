-- How each production is read.
use Rattle.std.specs.Prelude.{ℕ, zero, suc, Bool, true, false, List, [], ◌∷◌, Option, Some, None, Result}
use Rattle.design_lexer.specs.declared.syntax.class.Class.{Class}
use Rattle.design_lexer.specs.declared.syntax.class.Class.TheVariants as class
use Rattle.design_lexer.specs.Syntax.Classes.{Lexeme, is, one_of}
use Rattle.design_lexer.specs.Syntax.Spelled.{numbers, unit_names, name_at, unit_name_at, number_at, whole_at}
use Rattle.design_lexer.specs.Syntax.Words.{at_end}
use Rattle.design_lexer.specs.Syntax.Reading.{give, then_at, made_at, either_at, many_at, placed_at, few_at, sym_at, mark_at, else_at, maybe_at, any_at, several_at, listed_at, joined_at}
use Rattle.design_lexer.specs.declared.tree.NameAt.{NameAt}
use Rattle.design_lexer.specs.declared.tree.Number.{Number}
use Rattle.design_lexer.specs.declared.tree.FactorTree.{FactorTree}
use Rattle.design_lexer.specs.declared.tree.ConstantTree.{ConstantTree}
use Rattle.design_lexer.specs.declared.tree.TypeTree.{TypeTree}
use Rattle.design_lexer.specs.declared.tree.TypeTree.TheVariants as type
use Rattle.design_lexer.specs.declared.tree.Side.{Side}
use Rattle.design_lexer.specs.declared.tree.Side.TheVariants as side
use Rattle.design_lexer.specs.declared.tree.PortTree.{PortTree}
use Rattle.design_lexer.specs.declared.tree.ValueTree.{ValueTree}
use Rattle.design_lexer.specs.declared.tree.ValueTree.TheVariants as value
use Rattle.design_lexer.specs.declared.tree.PlaceTree.{PlaceTree}
use Rattle.design_lexer.specs.declared.tree.ExprTree.{ExprTree}
use Rattle.design_lexer.specs.declared.tree.ExprTree.TheVariants as expr
use Rattle.design_lexer.specs.declared.tree.RefTree.{RefTree}
use Rattle.design_lexer.specs.declared.tree.ArgTree.{ArgTree}
use Rattle.design_lexer.specs.declared.tree.RuleTree.{RuleTree}
use Rattle.design_lexer.specs.declared.tree.RuleTree.TheVariants as rule
use Rattle.design_lexer.specs.declared.tree.RowTree.{RowTree}
use Rattle.design_lexer.specs.declared.tree.BranchTree.{BranchTree}
use Rattle.design_lexer.specs.declared.tree.ParamTree.{ParamTree}
use Rattle.design_lexer.specs.declared.tree.BodyTree.{BodyTree}
use Rattle.design_lexer.specs.declared.tree.BodyTree.TheVariants as body
use Rattle.design_lexer.specs.declared.tree.PosetTree.{PosetTree}
use Rattle.design_lexer.specs.declared.tree.File.{File}
use Rattle.design_lexer.specs.declared.tree.File.TheVariants as file
use Rattle.design_parser.specs.declared.parse.FileKind.{FileKind}
use Rattle.design_parser.specs.declared.parse.FileKind.TheVariants as kind
use Rattle.design_parser.specs.declared.parts.Power.{Power}
use Rattle.design_parser.specs.declared.parts.Literal.{Literal}
use Rattle.design_parser.specs.declared.parts.NetItem.{NetItem}
use Rattle.design_parser.specs.declared.parts.NetItem.TheVariants as item
use Rattle.design_parser.specs.Trees.{factor, no_power, power, constant, port, element_of, upper_of, literal_value, literal_expr, place, sum, product, greatest, lesser, reference, argument, branch, param, row, poset, catalogue, Items, no_items, with_item, net}

-- ---- names and numbers

abbrev pub names_at : List Lexeme → Result (List NameAt × List Lexeme) ℕ
names_at = else_at [] (is class.Name) (listed_at class.Comma name_at)

-- ---- units and constants

abbrev pub joints : List Class
joints = class.Dot ∷ class.Slash ∷ []

abbrev pub negative_at : List Lexeme → Result (Bool × List Lexeme) ℕ
negative_at = else_at false (is class.Minus) (sym_at class.Minus (give true))

abbrev pub written_power_at : List Lexeme → Result (Power × List Lexeme) ℕ
written_power_at = sym_at class.Caret (then_at negative_at (λ negative. made_at (power negative) whole_at))

abbrev pub power_at : List Lexeme → Result (Power × List Lexeme) ℕ
power_at = else_at no_power (is class.Caret) written_power_at

abbrev pub factor_at : Bool → List Lexeme → Result (FactorTree × List Lexeme) ℕ
factor_at divided = then_at unit_name_at (λ name. made_at (factor divided name) power_at)

abbrev pub further_factor_at : List Lexeme → Result (FactorTree × List Lexeme) ℕ
further_factor_at = either_at (is class.Dot) (sym_at class.Dot (factor_at false)) (sym_at class.Slash (factor_at true))

abbrev pub unit_at : List Lexeme → Result (List FactorTree × List Lexeme) ℕ
unit_at = then_at (factor_at false) (λ f. many_at at_end (one_of joints) further_factor_at (f ∷ []))

abbrev pub under_at : List Lexeme → Result (Option Number × List Lexeme) ℕ
under_at = maybe_at (is class.Slash) (sym_at class.Slash (made_at (λ n. n.0) number_at))

abbrev pub maybe_unit_at : List Lexeme → Result (List FactorTree × List Lexeme) ℕ
maybe_unit_at = else_at [] (one_of unit_names) unit_at

abbrev pub constant_at : List Lexeme → Result (ConstantTree × List Lexeme) ℕ
constant_at = then_at number_at (λ over. then_at under_at (λ under. made_at (constant over under) maybe_unit_at))

-- ---- literals and values

abbrev pub literal_after : NameAt → List Lexeme → Result (Literal × List Lexeme) ℕ
literal_after p = sym_at class.Colon (either_at (is class.Name) (made_at (element_of p) name_at) (sym_at class.LeftBrace (then_at names_at (λ es. sym_at class.RightBrace (give (upper_of p es))))))

abbrev pub literal_at : List Lexeme → Result (Literal × List Lexeme) ℕ
literal_at = then_at name_at literal_after

abbrev pub bracketed_at : {A : Type 0} → (List Lexeme → Result (A × List Lexeme) ℕ) → List Lexeme → Result ((ℕ × List A) × List Lexeme) ℕ
bracketed_at p = then_at (mark_at class.Less) (λ at. then_at (listed_at class.Comma p) (λ parts. sym_at class.Greater (give (at, parts))))

abbrev pub plain_value_at : List Lexeme → Result (ValueTree × List Lexeme) ℕ
plain_value_at = either_at (is class.Top) (made_at (λ at. value.Top at) (mark_at class.Top)) (either_at (one_of numbers) (made_at (λ c. value.Constant c) constant_at) (made_at literal_value literal_at))

abbrev pub tuple_value_at : (List Lexeme → Result (ValueTree × List Lexeme) ℕ) → List Lexeme → Result (ValueTree × List Lexeme) ℕ
tuple_value_at v = made_at (λ t. value.Tuple t.0 t.1) (bracketed_at v)

unfoldable pub value_at : ℕ → List Lexeme → Result (ValueTree × List Lexeme) ℕ
value_at zero = plain_value_at
value_at (suc room) = either_at (is class.Less) (tuple_value_at (value_at room)) plain_value_at

-- ---- types and ports

abbrev pub plain_type_at : List Lexeme → Result (TypeTree × List Lexeme) ℕ
plain_type_at = either_at (is class.Nat) (sym_at class.Nat (give type.Nat)) (either_at (one_of unit_names) (made_at (λ fs. type.Unit fs) unit_at) (either_at (is class.Poset) (sym_at class.Poset (made_at (λ n. type.Poset n) name_at)) (sym_at class.Up (made_at (λ n. type.Up n) name_at))))

abbrev pub product_at : (List Lexeme → Result (TypeTree × List Lexeme) ℕ) → List Lexeme → Result (TypeTree × List Lexeme) ℕ
product_at t = sym_at class.Product (sym_at class.LeftRound (then_at (listed_at class.Comma t) (λ ts. sym_at class.RightRound (give (type.Product ts)))))

unfoldable pub type_at : ℕ → List Lexeme → Result (TypeTree × List Lexeme) ℕ
type_at zero = plain_type_at
type_at (suc room) = either_at (is class.Product) (product_at (type_at room)) plain_type_at

abbrev pub side_at : List Lexeme → Result (Side × List Lexeme) ℕ
side_at = either_at (is class.Provides) (sym_at class.Provides (give side.Provides)) (sym_at class.Requires (give side.Requires))

abbrev pub port_at : List Lexeme → Result (PortTree × List Lexeme) ℕ
port_at = then_at side_at (λ s. then_at name_at (λ n. sym_at class.LeftSquare (then_at (placed_at (type_at 64)) (λ t. sym_at class.RightSquare (sym_at class.Semicolon (give (port s n t)))))))

-- ---- places and expressions

abbrev pub plain_starts : List Class
plain_starts = class.Name ∷ class.Whole ∷ class.Decimal ∷ []

abbrev pub place_after : NameAt → List Lexeme → Result (PlaceTree × List Lexeme) ℕ
place_after first = made_at (place first) (maybe_at (is class.Dot) (sym_at class.Dot name_at))

abbrev pub place_at : List Lexeme → Result (PlaceTree × List Lexeme) ℕ
place_at = then_at name_at place_after

abbrev pub named_after : NameAt → List Lexeme → Result (ExprTree × List Lexeme) ℕ
named_after n = either_at (is class.Colon) (made_at literal_expr (literal_after n)) (made_at (λ p. expr.Place p) (place_after n))

abbrev pub named_at : List Lexeme → Result (ExprTree × List Lexeme) ℕ
named_at = then_at name_at named_after

abbrev pub plain_item_at : List Lexeme → Result (ExprTree × List Lexeme) ℕ
plain_item_at = either_at (one_of numbers) (made_at (λ c. expr.Constant c) constant_at) named_at

abbrev pub round_at : (List Lexeme → Result (ExprTree × List Lexeme) ℕ) → List Lexeme → Result (ExprTree × List Lexeme) ℕ
round_at e = sym_at class.LeftRound (then_at e (λ x. sym_at class.RightRound (give x)))

abbrev pub operands_at : (List Lexeme → Result (ExprTree × List Lexeme) ℕ) → List Lexeme → Result ((ExprTree × ExprTree) × List Lexeme) ℕ
operands_at e = sym_at class.LeftRound (then_at e (λ left. sym_at class.Comma (then_at e (λ right. sym_at class.RightRound (give (left, right))))))

abbrev pub greatest_at : (List Lexeme → Result (ExprTree × List Lexeme) ℕ) → List Lexeme → Result (ExprTree × List Lexeme) ℕ
greatest_at e = then_at (mark_at class.Max) (λ at. made_at (greatest at) (operands_at e))

abbrev pub lesser_at : (List Lexeme → Result (ExprTree × List Lexeme) ℕ) → List Lexeme → Result (ExprTree × List Lexeme) ℕ
lesser_at e = then_at (mark_at class.Min) (λ at. made_at (lesser at) (operands_at e))

abbrev pub tuple_at : (List Lexeme → Result (ExprTree × List Lexeme) ℕ) → List Lexeme → Result (ExprTree × List Lexeme) ℕ
tuple_at e = made_at (λ t. expr.Tuple t.1 t.0) (bracketed_at e)

abbrev pub call_at : (List Lexeme → Result (ExprTree × List Lexeme) ℕ) → List Lexeme → Result (ExprTree × List Lexeme) ℕ
call_at e = either_at (is class.Max) (greatest_at e) (lesser_at e)

abbrev pub opened_at : (List Lexeme → Result (ExprTree × List Lexeme) ℕ) → List Lexeme → Result (ExprTree × List Lexeme) ℕ
opened_at e = either_at (is class.LeftRound) (round_at e) (either_at (is class.Less) (tuple_at e) (call_at e))

abbrev pub term_of : (List Lexeme → Result (ExprTree × List Lexeme) ℕ) → List Lexeme → Result (ExprTree × List Lexeme) ℕ
term_of i = joined_at product class.Star i

abbrev pub sums_of : (List Lexeme → Result (ExprTree × List Lexeme) ℕ) → List Lexeme → Result (ExprTree × List Lexeme) ℕ
sums_of i = joined_at sum class.Plus (term_of i)

unfoldable pub item_at : ℕ → List Lexeme → Result (ExprTree × List Lexeme) ℕ
item_at zero = plain_item_at
item_at (suc room) = either_at (one_of plain_starts) plain_item_at (opened_at (sums_of (item_at room)))

abbrev pub term_at : ℕ → List Lexeme → Result (ExprTree × List Lexeme) ℕ
term_at room = term_of (item_at room)

abbrev pub expr_at : ℕ → List Lexeme → Result (ExprTree × List Lexeme) ℕ
expr_at room = sums_of (item_at room)

abbrev pub above_at : List Lexeme → Result (RuleTree × List Lexeme) ℕ
above_at = then_at place_at (λ p. sym_at class.AtLeast (then_at (expr_at 64) (λ e. sym_at class.Semicolon (give (rule.Above p e)))))

abbrev pub ignore_at : List Lexeme → Result (RuleTree × List Lexeme) ℕ
ignore_at = sym_at class.Ignore (then_at place_at (λ p. sym_at class.Semicolon (give (rule.Ignore p))))

abbrev pub whole_rule_at : List Lexeme → Result (RuleTree × List Lexeme) ℕ
whole_rule_at = either_at (is class.Name) above_at ignore_at

abbrev pub rule_at : List Lexeme → Result (RuleTree × List Lexeme) ℕ
rule_at = few_at 1000 whole_rule_at

-- ---- references

abbrev pub arg_at : (List Lexeme → Result (RefTree × List Lexeme) ℕ) → List Lexeme → Result (ArgTree × List Lexeme) ℕ
arg_at r = then_at name_at (λ n. sym_at class.Colon (made_at (argument n) r))

abbrev pub arguments_at : (List Lexeme → Result (RefTree × List Lexeme) ℕ) → List Lexeme → Result (List ArgTree × List Lexeme) ℕ
arguments_at r = else_at [] (is class.Less) (sym_at class.Less (then_at (listed_at class.Comma (arg_at r)) (λ arguments. sym_at class.Greater (give arguments))))

abbrev pub plain_ref_at : List Lexeme → Result (RefTree × List Lexeme) ℕ
plain_ref_at = made_at (λ n. reference n []) name_at

abbrev pub full_ref_at : (List Lexeme → Result (RefTree × List Lexeme) ℕ) → List Lexeme → Result (RefTree × List Lexeme) ℕ
full_ref_at r = then_at name_at (λ n. made_at (reference n) (arguments_at r))

unfoldable pub ref_at : ℕ → List Lexeme → Result (RefTree × List Lexeme) ℕ
ref_at zero = plain_ref_at
ref_at (suc room) = full_ref_at (ref_at room)

abbrev pub branch_at : List Lexeme → Result (BranchTree × List Lexeme) ℕ
branch_at = then_at name_at (λ n. sym_at class.Colon (then_at (ref_at 64) (λ r. sym_at class.Semicolon (give (branch n r)))))

abbrev pub instance_at : List Lexeme → Result (BranchTree × List Lexeme) ℕ
instance_at = sym_at class.Instance (then_at name_at (λ n. sym_at class.Equals (then_at (ref_at 64) (λ r. sym_at class.Semicolon (give (branch n r))))))

-- ---- bodies

abbrev pub cell_starts : List Class
cell_starts = class.Name ∷ class.Whole ∷ class.Decimal ∷ class.Top ∷ class.Less ∷ []

abbrev pub sides : List Class
sides = class.Provides ∷ class.Requires ∷ []

abbrev pub item_starts : List Class
item_starts = class.Name ∷ class.Ignore ∷ class.Instance ∷ class.Provides ∷ class.Requires ∷ []

abbrev pub cells_at : ℕ → List Lexeme → Result (List ValueTree × List Lexeme) ℕ
cells_at room = listed_at class.Comma (value_at room)

abbrev pub maybe_cells_at : List Lexeme → Result (List ValueTree × List Lexeme) ℕ
maybe_cells_at = else_at [] (one_of cell_starts) (cells_at 64)

abbrev pub row_at : List Lexeme → Result (RowTree × List Lexeme) ℕ
row_at = sym_at class.Row (then_at name_at (λ n. sym_at class.Colon (then_at maybe_cells_at (λ f. sym_at class.Arrow (then_at maybe_cells_at (λ r. sym_at class.Semicolon (give (row n f r))))))))

abbrev pub table_at : List Lexeme → Result ((List RowTree × Option NameAt) × List Lexeme) ℕ
table_at = sym_at class.Table (then_at name_at (λ n. sym_at class.Semicolon (give ([], Some n))))

abbrev pub listed_rows_at : List Lexeme → Result (List RowTree × List Lexeme) ℕ
listed_rows_at = any_at (is class.Row) row_at

abbrev pub rows_at : List Lexeme → Result ((List RowTree × Option NameAt) × List Lexeme) ℕ
rows_at = either_at (is class.Table) table_at (made_at (λ rows. (rows, None)) listed_rows_at)

abbrev pub ports_at : List Lexeme → Result (List PortTree × List Lexeme) ℕ
ports_at = any_at (one_of sides) port_at

abbrev pub catalogue_at : List Lexeme → Result (BodyTree × List Lexeme) ℕ
catalogue_at = sym_at class.Catalogue (sym_at class.LeftBrace (then_at ports_at (λ ports. then_at rows_at (λ rows. sym_at class.RightBrace (give (catalogue ports rows))))))

abbrev pub branches_at : List Lexeme → Result (List BranchTree × List Lexeme) ℕ
branches_at = several_at (is class.Name) branch_at

abbrev pub choose_at : List Lexeme → Result (BodyTree × List Lexeme) ℕ
choose_at = sym_at class.Choose (sym_at class.LeftBrace (then_at branches_at (λ branches. sym_at class.RightBrace (give (body.Choose branches)))))

abbrev pub net_item_at : List Lexeme → Result (NetItem × List Lexeme) ℕ
net_item_at = either_at (one_of sides) (made_at (λ p. item.Port p) port_at) (either_at (is class.Instance) (made_at (λ i. item.Part i) instance_at) (made_at (λ r. item.Rule r) rule_at))

abbrev pub net_items_at : List Lexeme → Result (Items × List Lexeme) ℕ
net_items_at = many_at with_item (one_of item_starts) net_item_at no_items

abbrev pub net_at : List Lexeme → Result (BodyTree × List Lexeme) ℕ
net_at = sym_at class.Mcdp (sym_at class.LeftBrace (then_at net_items_at (λ items. sym_at class.RightBrace (give (net items)))))

abbrev pub body_at : List Lexeme → Result (BodyTree × List Lexeme) ℕ
body_at = either_at (is class.Catalogue) catalogue_at (either_at (is class.Choose) choose_at net_at)

-- ---- files

abbrev pub chain_at : List Lexeme → Result (List NameAt × List Lexeme) ℕ
chain_at = then_at name_at (λ x. sym_at class.AtMost (then_at (listed_at class.AtMost name_at) (λ xs. sym_at class.Semicolon (give (x ∷ xs)))))

abbrev pub chains_at : List Lexeme → Result (List (List NameAt) × List Lexeme) ℕ
chains_at = any_at (is class.Name) chain_at

abbrev pub poset_at : List Lexeme → Result (PosetTree × List Lexeme) ℕ
poset_at = sym_at class.Poset (sym_at class.LeftBrace (sym_at class.Elements (then_at names_at (λ es. sym_at class.Semicolon (then_at chains_at (λ cs. sym_at class.RightBrace (give (poset es cs))))))))

abbrev pub interface_at : List Lexeme → Result (List PortTree × List Lexeme) ℕ
interface_at = sym_at class.Interface (sym_at class.LeftBrace (then_at ports_at (λ ports. sym_at class.RightBrace (give ports))))

abbrev pub param_at : List Lexeme → Result (ParamTree × List Lexeme) ℕ
param_at = then_at name_at (λ n. sym_at class.Colon (made_at (param n) name_at))

abbrev pub params_at : List Lexeme → Result (List ParamTree × List Lexeme) ℕ
params_at = listed_at class.Comma param_at

abbrev pub template_at : List Lexeme → Result (File × List Lexeme) ℕ
template_at = sym_at class.Template (sym_at class.Less (then_at params_at (λ ps. sym_at class.Greater (made_at (λ b. file.Template ps b) body_at))))

abbrev pub file_at : FileKind → List Lexeme → Result (File × List Lexeme) ℕ
file_at kind.Poset = made_at (λ p. file.Poset p) poset_at
file_at kind.Interface = made_at (λ ports. file.Interface ports) interface_at
file_at kind.Design = made_at (λ b. file.Design b) body_at
file_at kind.Template = template_at
