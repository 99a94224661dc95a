-- Which bytes a piece of each kind has.
use Rattle.std.specs.Prelude.{◌≡◌, ℕ, Bool, false, not, ◌&&◌, ◌||◌, ◌==◌, nat_le, nat_lt, IsTrue, List, [], ◌∷◌, ◌++◌, codes}
use Rattle.std.specs.List.{list_all, list_any}
use Rattle.std.specs.Str.{bytes_eq}
use Rattle.design_lexer.specs.declared.token.TokenKind.{TokenKind}
use Rattle.design_lexer.specs.declared.token.TokenKind.TheVariants as token
use Rattle.design_lexer.specs.declared.piece.PieceKind.{PieceKind}
use Rattle.design_lexer.specs.declared.piece.PieceKind.TheVariants as piece
use Rattle.design_lexer.specs.declared.piece.Piece.{Piece}

-- a space, a tab, a line feed or a carriage return
abbrev pub is_space : ℕ → Bool
is_space b = b == 32 || (b == 9 || (b == 10 || b == 13))

-- an ASCII letter or `_`
abbrev pub is_letter : ℕ → Bool
is_letter b = (nat_le 97 b && nat_le b 122) || ((nat_le 65 b && nat_le b 90) || b == 95)

abbrev pub is_digit : ℕ → Bool
is_digit b = nat_le 48 b && nat_le b 57

-- the symbols of one byte
abbrev pub is_sign : ℕ → Bool
is_sign b = list_any (λ sign. sign == b) (codes "{}[]()<>=:;,./*+^-")

-- the symbols of two bytes: `<=`, `>=` and `->`
abbrev pub is_pair : ℕ → ℕ → Bool
is_pair a b = (a == 60 && b == 61) || ((a == 62 && b == 61) || (a == 45 && b == 62))

-- at least one byte, and each passes the test
abbrev pub is_run : (ℕ → Bool) → List ℕ → Bool
is_run test [] = false
is_run test (b ∷ bs) = test b && list_all test bs

-- `#`, and no line feed
abbrev pub is_comment : List ℕ → Bool
is_comment [] = false
is_comment (b ∷ bs) = b == 35 && list_all (λ c. not (c == 10)) bs

-- a letter or `_`, and then letters, digits and `_`
abbrev pub is_named : List ℕ → Bool
is_named [] = false
is_named (b ∷ bs) = is_letter b && list_all (λ c. is_letter c || is_digit c) bs

abbrev pub reserved : List (List ℕ)
reserved =
    codes "poset" ∷ codes "elements" ∷ codes "interface" ∷ codes "template" ∷ codes "catalogue" ∷ codes "choose" ∷ codes "mcdp"
    ∷ codes "provides" ∷ codes "requires" ∷ codes "row" ∷ codes "table" ∷ codes "instance" ∷ codes "ignore" ∷ codes "Nat"
    ∷ codes "up" ∷ codes "product" ∷ codes "max" ∷ codes "min" ∷ codes "Top" ∷ []

abbrev pub is_one_of : List (List ℕ) → List ℕ → Bool
is_one_of words bs = list_any (λ word. bytes_eq word bs) words

-- one of the reserved words
unfoldable pub is_reserved : List ℕ → Bool
is_reserved bs = is_one_of reserved bs

-- digits, `.`, digits
pub record IsDecimal (bs : List ℕ) : Type 0 where
  pub whole : List ℕ
  pub part : List ℕ
  pub parts : bs ≡ whole ++ 46 ∷ part
  pub whole_digits : IsTrue (is_run is_digit whole)
  pub part_digits : IsTrue (is_run is_digit part)

abbrev pub is_symbol : List ℕ → Bool
is_symbol [] = false
is_symbol (a ∷ []) = is_sign a
is_symbol (a ∷ b ∷ []) = is_pair a b
is_symbol (a ∷ b ∷ c ∷ bs) = false

-- the bytes of a token of each kind, however many they are
abbrev pub HasForm : TokenKind → List ℕ → Type 0
HasForm token.Name bs = IsTrue (is_named bs && not (is_reserved bs))
HasForm token.Word bs = IsTrue (is_reserved bs)
HasForm token.Whole bs = IsTrue (is_run is_digit bs)
HasForm token.Decimal bs = IsDecimal bs
HasForm token.Symbol bs = IsTrue (is_symbol bs)

-- the bytes of a piece of each kind, however many they are
abbrev pub IsPiece : PieceKind → List ℕ → Type 0
IsPiece piece.Spaces bs = IsTrue (is_run is_space bs)
IsPiece piece.Comment bs = IsTrue (is_comment bs)
IsPiece (piece.Token kind) bs = HasForm kind bs

-- So many bytes are too many for a token of the kind: a name has at most 64, a number at most 20 digits, and a decimal its point besides.
abbrev pub is_long_for : TokenKind → ℕ → Bool
is_long_for token.Name n = nat_lt 64 n
is_long_for token.Word n = false
is_long_for token.Whole n = nat_lt 20 n
is_long_for token.Decimal n = nat_lt 21 n
is_long_for token.Symbol n = false

abbrev pub is_long : PieceKind → ℕ → Bool
is_long piece.Spaces n = false
is_long piece.Comment n = false
is_long (piece.Token kind) n = is_long_for kind n

-- a name of more than 64 bytes, or a number of more than 20 digits
abbrev pub is_too_long : Piece → Bool
is_too_long p = is_long p.kind p.len
