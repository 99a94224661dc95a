-- What the bytes of names and numbers stand for.
use Rattle.std.specs.Prelude.{ℕ, ◌+◌, ◌*◌, ◌-◌, cond, ◌==◌, List, [], ◌∷◌, length, Result}
use Rattle.design_lexer.specs.declared.tree.NameAt.{NameAt}
use Rattle.design_lexer.specs.declared.tree.Number.{Number}
use Rattle.design_lexer.specs.declared.syntax.class.Class.{Class}
use Rattle.design_lexer.specs.declared.syntax.class.Class.TheVariants as class
use Rattle.design_lexer.specs.Syntax.Classes.{Lexeme, is, one_of}
use Rattle.design_lexer.specs.Syntax.Words.{fold}
use Rattle.design_lexer.specs.Syntax.Reading.{token_at, made_at}

abbrev pub name_of : Lexeme → NameAt
name_of t = record { name = t.bytes; at = t.at }

-- the value with one digit more; a point changes nothing
abbrev pub with_digit : ℕ → ℕ → ℕ
with_digit value byte = cond (byte == 46) value (value * 10 + (byte - 48))

-- what the digits stand for, without the point
abbrev pub digits_of : List ℕ → ℕ
digits_of bytes = fold with_digit 0 bytes

-- how many bytes follow the point
abbrev pub decimals_of : List ℕ → ℕ
decimals_of [] = 0
decimals_of (byte ∷ bytes) = cond (byte == 46) (length bytes) (decimals_of bytes)

abbrev pub number_of : Lexeme → Number
number_of t = record { digits = digits_of t.bytes; decimals = decimals_of t.bytes }

-- ---- readers of one token

abbrev pub numbers : List Class
numbers = class.Whole ∷ class.Decimal ∷ []

abbrev pub unit_names : List Class
unit_names = class.Name ∷ class.Min ∷ []

abbrev pub name_at : List Lexeme → Result (NameAt × List Lexeme) ℕ
name_at = made_at name_of (token_at (is class.Name))

abbrev pub unit_name_at : List Lexeme → Result (NameAt × List Lexeme) ℕ
unit_name_at = made_at name_of (token_at (one_of unit_names))

-- a number, and its place
abbrev pub number_at : List Lexeme → Result ((Number × ℕ) × List Lexeme) ℕ
number_at = made_at (λ t. (number_of t, t.at)) (token_at (one_of numbers))

-- whole digits: what they stand for, and how they are written
abbrev pub whole_at : List Lexeme → Result ((ℕ × List ℕ) × List Lexeme) ℕ
whole_at = made_at (λ t. (digits_of t.bytes, t.bytes)) (token_at (is class.Whole))
