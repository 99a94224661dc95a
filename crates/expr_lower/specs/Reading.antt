-- What an expression means over the ports that it may read, and its faults.
use Rattle.std.specs.Prelude.{◌≡◌, ℕ, List, ◌++◌, Option, Some, [], ◌∷◌, map, option_and_then, option_map, Result}
use Rattle.std.specs.List.{flat_map}
use Rattle.design_lexer.specs.declared.tree.ConstantTree.{ConstantTree}
use Rattle.design_lexer.specs.declared.tree.ExprTree.{ExprTree, fold-ExprTree, out-ExprTree}
use Rattle.design_lexer.specs.declared.tree.ExprTree.TheOpen.{ExprTree-F}
use Rattle.design_lexer.specs.declared.tree.NameAt.{NameAt}
use Rattle.design_lexer.specs.declared.tree.PlaceTree.{PlaceTree}
use Rattle.design_model.specs.declared.expr.Expr.{Expr}
use Rattle.design_model.specs.declared.expr.Expr.TheVariants as expr
use Rattle.expr_lower.specs.Literals.{element_of, literal_faults, upper_of}
use Rattle.expr_lower.specs.Meanings.{joining_of, lowered, times}
use Rattle.expr_lower.specs.Operands.{joining_faults, times_faults}
use Rattle.expr_lower.specs.declared.meaning.Lower.{Lower}
use Rattle.expr_lower.specs.declared.meaning.Meaning.{Meaning}
use Rattle.expr_lower.specs.declared.meaning.Meaning.TheVariants as meaning
use Rattle.expr_lower.specs.declared.meaning.Operand.{Operand}
use Rattle.fault_list.specs.Answers.{Answers}
use Rattle.fault_list.specs.Faults.{fault_unless}
use Rattle.fault_list.specs.declared.fault.Fault.{Fault}
use Rattle.fault_list.specs.declared.fault.FaultKind.TheVariants.{NoPort}
use Rattle.fault_list.specs.declared.fault.Stop.{Stop}
use Rattle.tree_units.specs.Constants.{constant_faults, constant_of}
use Rattle.tree_units.specs.Together.{together}
use Rattle.value_type.specs.declared.kind.Kind.TheVariants as kind
use Rattle.value_type.specs.declared.poset.Types.{Types}

-- The place of an expression's first token, its faults in order, and what it means where it has none.
pub record Reading : Type 0 where
  pub at : ℕ
  pub faults : List Fault
  pub meaning : Option Meaning

-- The place is no port that an expression may read.
abbrev pub no_port : PlaceTree → Fault
no_port place = record { kind = NoPort; at = place.first.at }

-- the faults of an operator, where both operands have a meaning
abbrev pub faults_of_both : (Meaning → Meaning → List Fault) → Option Meaning → Option Meaning → List Fault
faults_of_both faults (Some a) (Some b) = faults a b
faults_of_both faults _ _ = []

-- what an operator makes, where both operands have a meaning
abbrev pub meaning_of_both : (Meaning → Meaning → Option Meaning) → Option Meaning → Option Meaning → Option Meaning
meaning_of_both made a b = option_and_then (λ x. option_and_then (made x) b) a

-- An operator at a place has the left operand's faults, then the right operand's, and then its own.
abbrev pub operator_read : ℕ → (Meaning → Meaning → List Fault) → (Meaning → Meaning → Option Meaning) → Reading → Reading → Reading
operator_read at faults made a b = record {
  at = at;
  faults = a.faults ++ b.faults ++ faults_of_both faults a.meaning b.meaning;
  meaning = meaning_of_both made a.meaning b.meaning;
}

-- a sum, a greatest or a least
abbrev pub joining_read : (Expr → Expr → Expr) → ℕ → Reading → Reading → Reading
joining_read joined at a b = operator_read at (joining_faults a.at b.at) (joining_of joined) a b

-- a product
abbrev pub product_read : ℕ → Reading → Reading → Reading
product_read at a b = operator_read at (times_faults at a.at b.at) times a b

-- a constant, as its tree writes it
abbrev pub constant_read : ConstantTree → Reading
constant_read c = record { at = c.at; faults = constant_faults c; meaning = option_map meaning.Constant (constant_of c) }

-- what a place names, if an expression may read it
abbrev pub port_read : PlaceTree → Option Lower → Reading
port_read place port = record { at = place.first.at; faults = fault_unless port (no_port place); meaning = option_map meaning.Expression port }

-- an element of a poset
abbrev pub element_read : Types → NameAt → NameAt → Reading
element_read types poset element = record {
  at = poset.at;
  faults = literal_faults types poset (element ∷ []);
  meaning = option_map meaning.Expression (element_of types poset element);
}

-- an upper set of a poset
abbrev pub upper_read : Types → NameAt → List NameAt → Reading
upper_read types poset elements = record {
  at = poset.at;
  faults = literal_faults types poset elements;
  meaning = option_map meaning.Expression (upper_of types poset elements);
}

-- the faults of a tuple's parts, in order
abbrev pub part_faults : List Reading → List Fault
part_faults parts = flat_map (λ part. part.faults) parts

-- the parts of a tuple, lowered, if each has a meaning
abbrev pub lowered_parts : List Reading → Option (List Lower)
lowered_parts parts = together (map (λ part. option_map lowered part.meaning) parts)

-- the tuple of lowered parts, and the product of their types
abbrev pub tuple_of : List Lower → Lower
tuple_of parts = record { kind = kind.Prod (map (λ part. part.kind) parts); expr = expr.Tuple (map (λ part. part.expr) parts) }

-- a tuple
abbrev pub tuple_read : ℕ → List Reading → Reading
tuple_read at parts = record {
  at = at;
  faults = part_faults parts;
  meaning = option_map (λ ls. meaning.Expression (tuple_of ls)) (lowered_parts parts);
}

-- one level of an expression, with the readings of its parts in their place
abbrev pub read_step : Types → (PlaceTree → Option Lower) → ExprTree-F Reading → Reading
read_step types ports (ExprTree-F.Constant c) = constant_read c
read_step types ports (ExprTree-F.Place place) = port_read place (ports place)
read_step types ports (ExprTree-F.Element poset element) = element_read types poset element
read_step types ports (ExprTree-F.Upper poset elements) = upper_read types poset elements
read_step types ports (ExprTree-F.Sum left right at) = joining_read expr.Sum at left right
read_step types ports (ExprTree-F.Product left right at) = product_read at left right
read_step types ports (ExprTree-F.Greatest left right at) = joining_read expr.Greatest at left right
read_step types ports (ExprTree-F.Lesser left right at) = joining_read expr.Lesser at left right
read_step types ports (ExprTree-F.Tuple parts at) = tuple_read at parts

-- what the expression means, where `ports` are the ports that places name, lowered
abbrev pub reading : Types → (PlaceTree → Option Lower) → ExprTree → Reading
reading types ports = fold-ExprTree Reading (read_step types ports)

-- The expression has this meaning.
abbrev pub Means : Types → (PlaceTree → Option Lower) → ExprTree → Meaning → Type 0
Means types ports tree m = (reading types ports tree).meaning ≡ Some m

-- the place of the first token, one level deep
abbrev pub place_at : {X : Type 0} → ExprTree-F X → ℕ
place_at (ExprTree-F.Constant c) = c.at
place_at (ExprTree-F.Place place) = place.first.at
place_at (ExprTree-F.Element poset element) = poset.at
place_at (ExprTree-F.Upper poset elements) = poset.at
place_at (ExprTree-F.Sum left right at) = at
place_at (ExprTree-F.Product left right at) = at
place_at (ExprTree-F.Greatest left right at) = at
place_at (ExprTree-F.Lesser left right at) = at
place_at (ExprTree-F.Tuple parts at) = at

-- the place of the first token
abbrev pub place_of : ExprTree → ℕ
place_of tree = place_at (out-ExprTree tree)

-- the reading of an expression that has this meaning
abbrev pub faultless : Operand → Reading
faultless operand = record { at = operand.at; faults = []; meaning = Some operand.meaning }

-- The reading is without a fault, and this is its place and meaning; or this is its first fault.
abbrev pub Reads : Reading → Result Operand (Stop Fault) → Type 0
Reads read result = Answers read.faults (λ operand. read ≡ faultless operand) result
