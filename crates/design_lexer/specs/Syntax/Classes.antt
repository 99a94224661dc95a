-- The classes of tokens that the grammar names.
use Rattle.std.specs.Prelude.{ℕ, Bool, true, false, not, ◌||◌, ◌&&◌, ◌==◌, List, [], ◌∷◌, map, take, drop, codes}
use Rattle.std.specs.Str.{bytes_eq}
use Rattle.design_lexer.specs.declared.token.TokenKind.{TokenKind}
use Rattle.design_lexer.specs.declared.token.TokenKind.TheVariants as token
use Rattle.design_lexer.specs.declared.token.Token.{Token}
use Rattle.design_lexer.specs.declared.syntax.class.Class.{Class}
use Rattle.design_lexer.specs.declared.syntax.class.Class.TheVariants as class

-- a token with its bytes
pub record Lexeme : Type 0 where
  pub kind : TokenKind
  pub at : ℕ
  pub bytes : List ℕ

-- the token of the text, with its bytes there
abbrev pub lexeme_of : List ℕ → Token → Lexeme
lexeme_of text t = record { kind = t.kind; at = t.at; bytes = take t.len (drop t.at text) }

-- the tokens of the text, with their bytes
abbrev pub lexemes_of : List ℕ → List Token → List Lexeme
lexemes_of text = map (lexeme_of text)

-- ---- classes

abbrev pub kind_of : Class → TokenKind
kind_of class.Name = token.Name
kind_of class.Whole = token.Whole
kind_of class.Decimal = token.Decimal
kind_of class.Poset = token.Word
kind_of class.Elements = token.Word
kind_of class.Interface = token.Word
kind_of class.Template = token.Word
kind_of class.Catalogue = token.Word
kind_of class.Choose = token.Word
kind_of class.Mcdp = token.Word
kind_of class.Provides = token.Word
kind_of class.Requires = token.Word
kind_of class.Row = token.Word
kind_of class.Table = token.Word
kind_of class.Instance = token.Word
kind_of class.Ignore = token.Word
kind_of class.Nat = token.Word
kind_of class.Up = token.Word
kind_of class.Product = token.Word
kind_of class.Max = token.Word
kind_of class.Min = token.Word
kind_of class.Top = token.Word
kind_of class.LeftBrace = token.Symbol
kind_of class.RightBrace = token.Symbol
kind_of class.LeftSquare = token.Symbol
kind_of class.RightSquare = token.Symbol
kind_of class.LeftRound = token.Symbol
kind_of class.RightRound = token.Symbol
kind_of class.Less = token.Symbol
kind_of class.Greater = token.Symbol
kind_of class.AtMost = token.Symbol
kind_of class.AtLeast = token.Symbol
kind_of class.Equals = token.Symbol
kind_of class.Colon = token.Symbol
kind_of class.Semicolon = token.Symbol
kind_of class.Comma = token.Symbol
kind_of class.Dot = token.Symbol
kind_of class.Slash = token.Symbol
kind_of class.Star = token.Symbol
kind_of class.Plus = token.Symbol
kind_of class.Caret = token.Symbol
kind_of class.Minus = token.Symbol
kind_of class.Arrow = token.Symbol

-- the bytes of one token of the class; a word and a symbol have no others
abbrev pub spelling_of : Class → List ℕ
spelling_of class.Name = codes "a"
spelling_of class.Whole = codes "1"
spelling_of class.Decimal = codes "1.0"
spelling_of class.Poset = codes "poset"
spelling_of class.Elements = codes "elements"
spelling_of class.Interface = codes "interface"
spelling_of class.Template = codes "template"
spelling_of class.Catalogue = codes "catalogue"
spelling_of class.Choose = codes "choose"
spelling_of class.Mcdp = codes "mcdp"
spelling_of class.Provides = codes "provides"
spelling_of class.Requires = codes "requires"
spelling_of class.Row = codes "row"
spelling_of class.Table = codes "table"
spelling_of class.Instance = codes "instance"
spelling_of class.Ignore = codes "ignore"
spelling_of class.Nat = codes "Nat"
spelling_of class.Up = codes "up"
spelling_of class.Product = codes "product"
spelling_of class.Max = codes "max"
spelling_of class.Min = codes "min"
spelling_of class.Top = codes "Top"
spelling_of class.LeftBrace = codes "{"
spelling_of class.RightBrace = codes "}"
spelling_of class.LeftSquare = codes "["
spelling_of class.RightSquare = codes "]"
spelling_of class.LeftRound = codes "("
spelling_of class.RightRound = codes ")"
spelling_of class.Less = codes "<"
spelling_of class.Greater = codes ">"
spelling_of class.AtMost = codes "<="
spelling_of class.AtLeast = codes ">="
spelling_of class.Equals = codes "="
spelling_of class.Colon = codes ":"
spelling_of class.Semicolon = codes ";"
spelling_of class.Comma = codes ","
spelling_of class.Dot = codes "."
spelling_of class.Slash = codes "/"
spelling_of class.Star = codes "*"
spelling_of class.Plus = codes "+"
spelling_of class.Caret = codes "^"
spelling_of class.Minus = codes "-"
spelling_of class.Arrow = codes "->"

abbrev pub code : TokenKind → ℕ
code token.Name = 0
code token.Word = 1
code token.Whole = 2
code token.Decimal = 3
code token.Symbol = 4

-- tokens of the kind have bytes of their own
abbrev pub is_free : TokenKind → Bool
is_free token.Name = true
is_free token.Word = false
is_free token.Whole = true
is_free token.Decimal = true
is_free token.Symbol = false

-- the token is of the class
unfoldable pub is : Class → Lexeme → Bool
is c l = code (kind_of c) == code l.kind && (is_free l.kind || bytes_eq (spelling_of c) l.bytes)

-- the token is of one of the classes
abbrev pub one_of : List Class → Lexeme → Bool
one_of [] l = false
one_of (c ∷ cs) l = is c l || one_of cs l

-- the list begins with a token that passes the test
abbrev pub starts : (Lexeme → Bool) → List Lexeme → Bool
starts test [] = false
starts test (l ∷ ls) = test l

-- the list doesn't begin with a token that passes the test
abbrev pub stops : (Lexeme → Bool) → List Lexeme → Bool
stops test [] = true
stops test (l ∷ ls) = not (test l)

-- a token of the class
abbrev pub sample : Class → Lexeme
sample c = record { kind = kind_of c; at = 0; bytes = spelling_of c }

-- each token of the first class is of the second
abbrev pub same_class : Class → Class → Bool
same_class c d = code (kind_of d) == code (kind_of c) && (is_free (kind_of c) || bytes_eq (spelling_of d) (spelling_of c))

abbrev pub has : Class → List Class → Bool
has c [] = false
has c (d ∷ ds) = same_class c d || has c ds

-- each of the first classes is one of the second
abbrev pub all_in : List Class → List Class → Bool
all_in [] ds = true
all_in (c ∷ cs) ds = has c ds && all_in cs ds

-- no class is in both
abbrev pub disjoint : List Class → List Class → Bool
disjoint [] ds = true
disjoint (c ∷ cs) ds = not (has c ds) && disjoint cs ds
