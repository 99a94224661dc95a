-- What the cells of a table mean.
use Rattle.std.specs.Prelude.{◌≡◌, ℕ, List, [], ◌∷◌, Some, Result, Ok, Err}
use Rattle.std.specs.Str.{IsUtf8}
use Rattle.value_type.specs.declared.kind.Kind.{Kind}
use Rattle.value_type.specs.declared.poset.Types.{Types}
use Rattle.value_type.specs.declared.value.Value.{Value}
use Rattle.design_lexer.specs.declared.token.Token.{Token}
use Rattle.design_lexer.specs.declared.tree.NameAt.{NameAt}
use Rattle.design_lexer.specs.declared.tree.ValueTree.{ValueTree}
use Rattle.design_lexer.specs.Cut.{AreTokens}
use Rattle.design_lexer.specs.Syntax.Classes.{lexemes_of}
use Rattle.design_parser.specs.Grammar.{Name, Query}
use Rattle.row_values.specs.declared.value.CellFault.{CellFault}
use Rattle.row_values.specs.declared.value.CellFault.TheVariants as fault
use Rattle.row_values.specs.declared.value.Rounding.{Rounding}
use Rattle.row_values.specs.Values.{value_meant}

-- One with the property, or Bad, and then there is none. Want of memory says nothing.
abbrev pub Finds : {A : Type 0} → (A → Type 0) → Result A CellFault → Type 0
Finds {A = A} P (Ok x) = P x
Finds {A = A} P (Err fault.Bad) = (x : A) → P x → ⊥
Finds {A = A} P (Err fault.Memory) = Unit {0}

-- The cell is a text, and is cut into these tokens.
pub record IsCut (cell : List ℕ) (tokens : List Token) : Type 0 where
  pub text : IsUtf8 cell
  pub cut : AreTokens cell tokens

-- The tokens of the cell write one value, of this tree.
pub record Writes (cell : List ℕ) (tree : ValueTree) : Type 0 where
  pub tokens : List Token
  pub cut : IsCut cell tokens
  pub written : Query (lexemes_of cell tokens) (tree ∷ [])

-- The cell has one token, which is this name.
pub record IsName (cell : List ℕ) (name : List ℕ) : Type 0 where
  pub tokens : List Token
  pub cut : IsCut cell tokens
  pub spelled : NameAt
  pub written : Name (lexemes_of cell tokens) spelled
  pub is : name ≡ spelled.name

-- The cell means this value of the type.
pub record CellIs (t : Types) (r : Rounding) (kind : Kind) (cell : List ℕ) (v : Value) : Type 0 where
  pub tree : ValueTree
  pub writes : Writes cell tree
  pub means : value_meant t r kind tree ≡ Some v
