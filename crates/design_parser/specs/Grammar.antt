-- The grammar: which tokens write which tree, production by production, the smallest first.
use Rattle.std.specs.Prelude.{ℕ, zero, suc, Bool, true, false, List, [], ◌∷◌, Option, Some, None}
use Rattle.design_lexer.specs.declared.syntax.class.Class.TheVariants as class
use Rattle.design_lexer.specs.Syntax.Classes.{Lexeme, is, one_of}
use Rattle.design_lexer.specs.Syntax.Spelled.{name_of, number_of, digits_of, numbers, unit_names}
use Rattle.design_lexer.specs.Syntax.Words.{One, Nothing, Then, Made, Either, Placed, Few, Sym, Mark, Else, Maybe, Folded, Any, Several, Listed, Joined, at_end}
use Rattle.design_lexer.specs.declared.tree.NameAt.{NameAt}
use Rattle.design_lexer.specs.declared.tree.Number.{Number}
use Rattle.design_lexer.specs.declared.tree.FactorTree.{FactorTree}
use Rattle.design_lexer.specs.declared.tree.ConstantTree.{ConstantTree}
use Rattle.design_lexer.specs.declared.tree.TypeTree.{TypeTree}
use Rattle.design_lexer.specs.declared.tree.TypeTree.TheVariants as type
use Rattle.design_lexer.specs.declared.tree.Side.{Side}
use Rattle.design_lexer.specs.declared.tree.Side.TheVariants as side
use Rattle.design_lexer.specs.declared.tree.PortTree.{PortTree}
use Rattle.design_lexer.specs.declared.tree.ValueTree.{ValueTree}
use Rattle.design_lexer.specs.declared.tree.ValueTree.TheVariants as value
use Rattle.design_lexer.specs.declared.tree.PlaceTree.{PlaceTree}
use Rattle.design_lexer.specs.declared.tree.ExprTree.{ExprTree}
use Rattle.design_lexer.specs.declared.tree.ExprTree.TheVariants as expr
use Rattle.design_lexer.specs.declared.tree.RefTree.{RefTree}
use Rattle.design_lexer.specs.declared.tree.ArgTree.{ArgTree}
use Rattle.design_lexer.specs.declared.tree.RuleTree.{RuleTree}
use Rattle.design_lexer.specs.declared.tree.RuleTree.TheVariants as rule
use Rattle.design_lexer.specs.declared.tree.RowTree.{RowTree}
use Rattle.design_lexer.specs.declared.tree.BranchTree.{BranchTree}
use Rattle.design_lexer.specs.declared.tree.ParamTree.{ParamTree}
use Rattle.design_lexer.specs.declared.tree.BodyTree.{BodyTree}
use Rattle.design_lexer.specs.declared.tree.BodyTree.TheVariants as body
use Rattle.design_lexer.specs.declared.tree.PosetTree.{PosetTree}
use Rattle.design_lexer.specs.declared.tree.File.{File}
use Rattle.design_lexer.specs.declared.tree.File.TheVariants as file
use Rattle.design_parser.specs.declared.parse.FileKind.{FileKind}
use Rattle.design_parser.specs.declared.parse.FileKind.TheVariants as kind
use Rattle.design_parser.specs.declared.parts.Power.{Power}
use Rattle.design_parser.specs.declared.parts.Literal.{Literal}
use Rattle.design_parser.specs.declared.parts.NetItem.{NetItem}
use Rattle.design_parser.specs.declared.parts.NetItem.TheVariants as item
use Rattle.design_parser.specs.Trees.{factor, no_power, power, constant, port, element_of, upper_of, literal_value, literal_expr, place, sum, product, greatest, lesser, reference, argument, branch, param, row, poset, catalogue, no_items, with_item, net}

-- ---- names and numbers

-- NAME
abbrev pub Name : List Lexeme → NameAt → Type 0
Name = Made name_of (One (is class.Name))

-- [ NAME { "," NAME } ]
abbrev pub Names : List Lexeme → List NameAt → Type 0
Names = Else [] (Listed class.Comma Name)

-- WHOLE | DECIMAL, and its place
abbrev pub NumberAt : List Lexeme → Number × ℕ → Type 0
NumberAt = Made (λ t. (number_of t, t.at)) (One (one_of numbers))

-- WHOLE: what it stands for, and how it is written
abbrev pub WholeOf : List Lexeme → ℕ × List ℕ → Type 0
WholeOf = Made (λ t. (digits_of t.bytes, t.bytes)) (One (is class.Whole))

-- ---- units and constants

-- NAME | "min"
abbrev pub UnitName : List Lexeme → NameAt → Type 0
UnitName = Made name_of (One (one_of unit_names))

-- [ "-" ]
abbrev pub Negative : List Lexeme → Bool → Type 0
Negative = Else false (Sym class.Minus (Nothing true))

-- [ "^" [ "-" ] WHOLE ]
abbrev pub PowerOf : List Lexeme → Power → Type 0
PowerOf = Else no_power (Sym class.Caret (Then Negative (λ negative. Made (power negative) WholeOf)))

-- factor = ( NAME | "min" ) [ "^" [ "-" ] WHOLE ]
abbrev pub Factor : Bool → List Lexeme → FactorTree → Type 0
Factor divided = Then UnitName (λ name. Made (factor divided name) PowerOf)

-- ( "." | "/" ) factor
abbrev pub FurtherFactor : List Lexeme → FactorTree → Type 0
FurtherFactor = Either (Sym class.Dot (Factor false)) (Sym class.Slash (Factor true))

-- unit = factor { ( "." | "/" ) factor }
abbrev pub Unit_ : List Lexeme → List FactorTree → Type 0
Unit_ = Then (Factor false) (λ f. Folded at_end (f ∷ []) FurtherFactor)

-- constant = NUMBER [ "/" NUMBER ] [ unit ]
abbrev pub Constant : List Lexeme → ConstantTree → Type 0
Constant = Then NumberAt (λ over. Then (Maybe (Sym class.Slash (Made (λ n. n.0) NumberAt))) (λ under. Made (constant over under) (Else [] Unit_)))

-- ---- literals and values

-- ":" ( NAME | "{" [ NAME { "," NAME } ] "}" ), after the name of a poset
abbrev pub LiteralAfter : NameAt → List Lexeme → Literal → Type 0
LiteralAfter p = Sym class.Colon (Either (Made (element_of p) Name) (Sym class.LeftBrace (Then Names (λ es. Sym class.RightBrace (Nothing (upper_of p es))))))

-- literal = NAME ":" ( NAME | "{" [ NAME { "," NAME } ] "}" )
abbrev pub LiteralOf : List Lexeme → Literal → Type 0
LiteralOf = Then Name LiteralAfter

-- "<" W { "," W } ">", and the place of "<"
abbrev pub Bracketed : {A : Type 0} → (List Lexeme → A → Type 0) → List Lexeme → ℕ × List A → Type 0
Bracketed W = Then (Mark class.Less) (λ at. Then (Listed class.Comma W) (λ parts. Sym class.Greater (Nothing (at, parts))))

-- "Top" | constant | literal
abbrev pub PlainValue : List Lexeme → ValueTree → Type 0
PlainValue = Either (Made (λ at. value.Top at) (Mark class.Top)) (Either (Made (λ c. value.Constant c) Constant) (Made literal_value LiteralOf))

-- value = "Top" | constant | literal | "<" value { "," value } ">", where so many brackets may still be opened
unfoldable pub Value : ℕ → List Lexeme → ValueTree → Type 0
Value zero = PlainValue
Value (suc room) = Either PlainValue (Made (λ t. value.Tuple t.0 t.1) (Bracketed (Value room)))

-- ---- types and ports

-- "Nat" | unit | "poset" NAME | "up" NAME
abbrev pub PlainType : List Lexeme → TypeTree → Type 0
PlainType = Either (Sym class.Nat (Nothing type.Nat)) (Either (Made (λ fs. type.Unit fs) Unit_) (Either (Sym class.Poset (Made (λ n. type.Poset n) Name)) (Sym class.Up (Made (λ n. type.Up n) Name))))

-- type = "Nat" | unit | "poset" NAME | "up" NAME | "product" "(" type { "," type } ")", where so many brackets may still be opened
unfoldable pub Type_ : ℕ → List Lexeme → TypeTree → Type 0
Type_ zero = PlainType
Type_ (suc room) = Either PlainType (Sym class.Product (Sym class.LeftRound (Then (Listed class.Comma (Type_ room)) (λ ts. Sym class.RightRound (Nothing (type.Product ts))))))

-- port = ( "provides" | "requires" ) NAME "[" type "]" ";"
abbrev pub SideOf : List Lexeme → Side → Type 0
SideOf = Either (Sym class.Provides (Nothing side.Provides)) (Sym class.Requires (Nothing side.Requires))

abbrev pub Port : List Lexeme → PortTree → Type 0
Port = Then SideOf (λ s. Then Name (λ n. Sym class.LeftSquare (Then (Placed (Type_ 64)) (λ t. Sym class.RightSquare (Sym class.Semicolon (Nothing (port s n t)))))))

-- ---- places and expressions

-- [ "." NAME ], after a name
abbrev pub PlaceAfter : NameAt → List Lexeme → PlaceTree → Type 0
PlaceAfter first = Made (place first) (Maybe (Sym class.Dot Name))

-- place = NAME [ "." NAME ]
abbrev pub Place : List Lexeme → PlaceTree → Type 0
Place = Then Name PlaceAfter

-- constant | literal | place
abbrev pub PlainItem : List Lexeme → ExprTree → Type 0
PlainItem = Either (Made (λ c. expr.Constant c) Constant) (Either (Made literal_expr LiteralOf) (Made (λ p. expr.Place p) Place))

-- "(" expr ")"
abbrev pub Round : (List Lexeme → ExprTree → Type 0) → List Lexeme → ExprTree → Type 0
Round E = Sym class.LeftRound (Then E (λ e. Sym class.RightRound (Nothing e)))

-- "(" expr "," expr ")"
abbrev pub Operands : (List Lexeme → ExprTree → Type 0) → List Lexeme → ExprTree × ExprTree → Type 0
Operands E = Sym class.LeftRound (Then E (λ left. Sym class.Comma (Then E (λ right. Sym class.RightRound (Nothing (left, right))))))

-- ( "max" | "min" ) "(" expr "," expr ")"
abbrev pub Call : (List Lexeme → ExprTree → Type 0) → List Lexeme → ExprTree → Type 0
Call E = Either (Then (Mark class.Max) (λ at. Made (greatest at) (Operands E))) (Then (Mark class.Min) (λ at. Made (lesser at) (Operands E)))

-- term = item { "*" item }
abbrev pub Term : (List Lexeme → ExprTree → Type 0) → List Lexeme → ExprTree → Type 0
Term I = Joined product class.Star I

-- expr = term { "+" term }
abbrev pub Sums : (List Lexeme → ExprTree → Type 0) → List Lexeme → ExprTree → Type 0
Sums I = Joined sum class.Plus (Term I)

-- item = constant | literal | place | "(" expr ")" | ( "max" | "min" ) "(" expr "," expr ")" | "<" expr { "," expr } ">", where so many brackets may still be opened
unfoldable pub Item : ℕ → List Lexeme → ExprTree → Type 0
Item zero = PlainItem
Item (suc room) = Either PlainItem (Either (Round (Sums (Item room))) (Either (Call (Sums (Item room))) (Made (λ t. expr.Tuple t.1 t.0) (Bracketed (Sums (Item room))))))

abbrev pub Expr : ℕ → List Lexeme → ExprTree → Type 0
Expr room = Sums (Item room)

-- rule = place ">=" expr ";" | "ignore" place ";", with at most 1,000 signs
abbrev pub RuleOf : List Lexeme → RuleTree → Type 0
RuleOf = Either (Then Place (λ p. Sym class.AtLeast (Then (Expr 64) (λ e. Sym class.Semicolon (Nothing (rule.Above p e)))))) (Sym class.Ignore (Then Place (λ p. Sym class.Semicolon (Nothing (rule.Ignore p)))))

abbrev pub Rule : List Lexeme → RuleTree → Type 0
Rule = Few 1000 RuleOf

-- ---- references

-- arg = NAME ":" ref
abbrev pub Arg : (List Lexeme → RefTree → Type 0) → List Lexeme → ArgTree → Type 0
Arg R = Then Name (λ n. Sym class.Colon (Made (argument n) R))

-- ref = NAME [ "<" arg { "," arg } ">" ], where so many brackets may still be opened
unfoldable pub Ref : ℕ → List Lexeme → RefTree → Type 0
Ref zero = Made (λ n. reference n []) Name
Ref (suc room) = Then Name (λ n. Made (λ arguments. reference n arguments) (Else [] (Sym class.Less (Then (Listed class.Comma (Arg (Ref room))) (λ arguments. Sym class.Greater (Nothing arguments))))))

-- branch = NAME ":" ref ";"
abbrev pub Branch : List Lexeme → BranchTree → Type 0
Branch = Then Name (λ n. Sym class.Colon (Then (Ref 64) (λ r. Sym class.Semicolon (Nothing (branch n r)))))

-- instance = "instance" NAME "=" ref ";"
abbrev pub Instance : List Lexeme → BranchTree → Type 0
Instance = Sym class.Instance (Then Name (λ n. Sym class.Equals (Then (Ref 64) (λ r. Sym class.Semicolon (Nothing (branch n r))))))

-- ---- bodies

-- cells = value { "," value }
abbrev pub Cells : List Lexeme → List ValueTree → Type 0
Cells = Listed class.Comma (Value 64)

-- row = "row" NAME ":" [ cells ] "->" [ cells ] ";"
abbrev pub Row : List Lexeme → RowTree → Type 0
Row = Sym class.Row (Then Name (λ n. Sym class.Colon (Then (Else [] Cells) (λ f. Sym class.Arrow (Then (Else [] Cells) (λ r. Sym class.Semicolon (Nothing (row n f r))))))))

-- { row } | "table" NAME ";"
abbrev pub Rows : List Lexeme → List RowTree × Option NameAt → Type 0
Rows = Either (Made (λ rows. (rows, None)) (Any Row)) (Sym class.Table (Then Name (λ n. Sym class.Semicolon (Nothing ([], Some n)))))

-- catalogue = "catalogue" "{" { port } ( { row } | "table" NAME ";" ) "}"
abbrev pub Catalogue : List Lexeme → BodyTree → Type 0
Catalogue = Sym class.Catalogue (Sym class.LeftBrace (Then (Any Port) (λ ports. Then Rows (λ rows. Sym class.RightBrace (Nothing (catalogue ports rows))))))

-- choose = "choose" "{" branch { branch } "}"
abbrev pub Choose : List Lexeme → BodyTree → Type 0
Choose = Sym class.Choose (Sym class.LeftBrace (Then (Several Branch) (λ branches. Sym class.RightBrace (Nothing (body.Choose branches)))))

-- net = "mcdp" "{" { port | instance | rule } "}"
abbrev pub NetItemOf : List Lexeme → NetItem → Type 0
NetItemOf = Either (Made (λ p. item.Port p) Port) (Either (Made (λ i. item.Part i) Instance) (Made (λ r. item.Rule r) Rule))

abbrev pub Net : List Lexeme → BodyTree → Type 0
Net = Sym class.Mcdp (Sym class.LeftBrace (Then (Folded with_item no_items NetItemOf) (λ items. Sym class.RightBrace (Nothing (net items)))))

-- body = catalogue | choose | net
abbrev pub Body : List Lexeme → BodyTree → Type 0
Body = Either Catalogue (Either Choose Net)

-- ---- files

-- chain = NAME "<=" NAME { "<=" NAME } ";"
abbrev pub Chain : List Lexeme → List NameAt → Type 0
Chain = Then Name (λ x. Sym class.AtMost (Then (Listed class.AtMost Name) (λ xs. Sym class.Semicolon (Nothing (x ∷ xs)))))

-- poset = "poset" "{" "elements" [ NAME { "," NAME } ] ";" { chain } "}"
abbrev pub Poset : List Lexeme → PosetTree → Type 0
Poset = Sym class.Poset (Sym class.LeftBrace (Sym class.Elements (Then Names (λ es. Sym class.Semicolon (Then (Any Chain) (λ cs. Sym class.RightBrace (Nothing (poset es cs))))))))

-- interface = "interface" "{" { port } "}"
abbrev pub Interface : List Lexeme → List PortTree → Type 0
Interface = Sym class.Interface (Sym class.LeftBrace (Then (Any Port) (λ ports. Sym class.RightBrace (Nothing ports))))

-- param = NAME ":" NAME
abbrev pub Param : List Lexeme → ParamTree → Type 0
Param = Then Name (λ n. Sym class.Colon (Made (param n) Name))

-- template = "template" "<" param { "," param } ">" body
abbrev pub Template : List Lexeme → File → Type 0
Template = Sym class.Template (Sym class.Less (Then (Listed class.Comma Param) (λ ps. Sym class.Greater (Made (λ b. file.Template ps b) Body))))

-- a file of the kind
abbrev pub Written : FileKind → List Lexeme → File → Type 0
Written kind.Poset = Made (λ p. file.Poset p) Poset
Written kind.Interface = Made (λ ports. file.Interface ports) Interface
Written kind.Design = Made (λ b. file.Design b) Body
Written kind.Template = Template

-- query = [ value { "," value } ]
abbrev pub Query : List Lexeme → List ValueTree → Type 0
Query = Else [] Cells
