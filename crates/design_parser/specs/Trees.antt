-- How the trees are put together from their parts.
use Rattle.std.specs.Prelude.{ℕ, Bool, false, List, [], ◌∷◌, ◌++◌, Option, Some, None}
use Rattle.design_lexer.specs.declared.tree.NameAt.{NameAt}
use Rattle.design_lexer.specs.declared.tree.Number.{Number}
use Rattle.design_lexer.specs.declared.tree.FactorTree.{FactorTree}
use Rattle.design_lexer.specs.declared.tree.ConstantTree.{ConstantTree}
use Rattle.design_lexer.specs.declared.tree.TypeTree.{TypeTree}
use Rattle.design_lexer.specs.declared.tree.Side.{Side}
use Rattle.design_lexer.specs.declared.tree.PortTree.{PortTree}
use Rattle.design_lexer.specs.declared.tree.ValueTree.{ValueTree}
use Rattle.design_lexer.specs.declared.tree.ValueTree.TheVariants as value
use Rattle.design_lexer.specs.declared.tree.PlaceTree.{PlaceTree}
use Rattle.design_lexer.specs.declared.tree.ExprTree.{ExprTree, out-ExprTree}
use Rattle.design_lexer.specs.declared.tree.ExprTree.TheVariants as expr
use Rattle.design_lexer.specs.declared.tree.ExprTree.TheOpen.{ExprTree-F}
use Rattle.design_lexer.specs.declared.tree.RefTree.{RefTree, roll-RefTree}
use Rattle.design_lexer.specs.declared.tree.ArgTree.{ArgTree, roll-ArgTree}
use Rattle.design_lexer.specs.declared.tree.RuleTree.{RuleTree}
use Rattle.design_lexer.specs.declared.tree.RowTree.{RowTree}
use Rattle.design_lexer.specs.declared.tree.BranchTree.{BranchTree}
use Rattle.design_lexer.specs.declared.tree.ParamTree.{ParamTree}
use Rattle.design_lexer.specs.declared.tree.BodyTree.{BodyTree}
use Rattle.design_lexer.specs.declared.tree.BodyTree.TheVariants as body
use Rattle.design_lexer.specs.declared.tree.PosetTree.{PosetTree}
use Rattle.design_parser.specs.declared.parts.Power.{Power}
use Rattle.design_parser.specs.declared.parts.Literal.{Literal}
use Rattle.design_parser.specs.declared.parts.Literal.TheVariants as literal
use Rattle.design_parser.specs.declared.parts.NetItem.{NetItem}
use Rattle.design_parser.specs.declared.parts.NetItem.TheVariants as item

abbrev pub factor : Bool → NameAt → Power → FactorTree
factor divided name p = record { divided = divided; name = name; negative = p.negative; power = p.power; written = p.written }

abbrev pub no_power : Power
no_power = record { negative = false; power = None; written = [] }

abbrev pub power : Bool → ℕ × List ℕ → Power
power negative digits = record { negative = negative; power = Some digits.0; written = digits.1 }

abbrev pub constant : Number × ℕ → Option Number → List FactorTree → ConstantTree
constant over under unit = record { over = over.0; under = under; unit = unit; at = over.1 }

abbrev pub port : Side → NameAt → TypeTree × ℕ → PortTree
port side name kind = record { side = side; name = name; kind = kind.0; at = kind.1 }

abbrev pub element_of : NameAt → NameAt → Literal
element_of poset element = literal.Element poset element

abbrev pub upper_of : NameAt → List NameAt → Literal
upper_of poset elements = literal.Upper poset elements

abbrev pub literal_value : Literal → ValueTree
literal_value (literal.Element poset element) = value.Element poset element
literal_value (literal.Upper poset elements) = value.Upper poset elements

abbrev pub literal_expr : Literal → ExprTree
literal_expr (literal.Element poset element) = expr.Element poset element
literal_expr (literal.Upper poset elements) = expr.Upper poset elements

abbrev pub place : NameAt → Option NameAt → PlaceTree
place first second = record { first = first; second = second }

-- the place of the expression, which round brackets leave as it is
abbrev pub place_in : ExprTree-F ExprTree → ℕ
place_in (ExprTree-F.Constant c) = c.at
place_in (ExprTree-F.Place p) = p.first.at
place_in (ExprTree-F.Element poset element) = poset.at
place_in (ExprTree-F.Upper poset elements) = poset.at
place_in (ExprTree-F.Sum left right at) = at
place_in (ExprTree-F.Product left right at) = at
place_in (ExprTree-F.Greatest left right at) = at
place_in (ExprTree-F.Lesser left right at) = at
place_in (ExprTree-F.Tuple parts at) = at

abbrev pub place_of : ExprTree → ℕ
place_of e = place_in (out-ExprTree e)

abbrev pub sum : ExprTree → ExprTree → ExprTree
sum left right = expr.Sum left right (place_of left)

abbrev pub product : ExprTree → ExprTree → ExprTree
product left right = expr.Product left right (place_of left)

abbrev pub greatest : ℕ → ExprTree × ExprTree → ExprTree
greatest at operands = expr.Greatest operands.0 operands.1 at

abbrev pub lesser : ℕ → ExprTree × ExprTree → ExprTree
lesser at operands = expr.Lesser operands.0 operands.1 at

abbrev pub reference : NameAt → List ArgTree → RefTree
reference name arguments = roll-RefTree (record { name = name; arguments = arguments })

abbrev pub argument : NameAt → RefTree → ArgTree
argument name reference = roll-ArgTree (record { name = name; reference = reference })

abbrev pub branch : NameAt → RefTree → BranchTree
branch name reference = record { name = name; reference = reference }

abbrev pub param : NameAt → NameAt → ParamTree
param name interface = record { name = name; interface = interface }

abbrev pub row : NameAt → List ValueTree → List ValueTree → RowTree
row name provided required = record { name = name; provided = provided; required = required }

abbrev pub poset : List NameAt → List (List NameAt) → PosetTree
poset elements chains = record { elements = elements; chains = chains }

abbrev pub catalogue : List PortTree → List RowTree × Option NameAt → BodyTree
catalogue ports rows = body.Catalogue ports rows.0 rows.1

-- the items of a net by what they are, each kind in order
pub record Items : Type 0 where
  pub ports : List PortTree
  pub parts : List BranchTree
  pub rules : List RuleTree

abbrev pub no_items : Items
no_items = record { ports = []; parts = []; rules = [] }

abbrev pub with_item : Items → NetItem → Items
with_item l (item.Port port) = record { ports = l.ports ++ port ∷ []; parts = l.parts; rules = l.rules }
with_item l (item.Part part) = record { ports = l.ports; parts = l.parts ++ part ∷ []; rules = l.rules }
with_item l (item.Rule rule) = record { ports = l.ports; parts = l.parts; rules = l.rules ++ rule ∷ [] }

abbrev pub net : Items → BodyTree
net l = body.Net l.ports l.parts l.rules
