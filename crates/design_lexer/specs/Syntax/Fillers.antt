-- Tokens that complete a list: short ones of their kind's form, and no sign.
use Rattle.std.proofs.Common.{ℕ, Bool, true, false, not, ◌&&◌, List, length}
use Rattle.design_lexer.specs.Pieces.{is_digit, is_named, is_reserved, is_run, is_symbol, is_long_for}
use Rattle.design_lexer.specs.declared.token.TokenKind.TheVariants as token
use Rattle.design_lexer.specs.declared.token.TokenKind.{TokenKind}
use Rattle.design_lexer.specs.Syntax.Classes.{Lexeme}
use Rattle.design_lexer.specs.Syntax.Words.{is_sign}
use Rattle.design_lexer.specs.declared.syntax.class.Class.TheVariants as class
use Rattle.design_lexer.specs.declared.syntax.class.Class.{Class}

abbrev pub has_form : TokenKind → List ℕ → Bool
has_form token.Name bs = is_named bs && not (is_reserved bs)
has_form token.Word bs = is_reserved bs
has_form token.Whole bs = is_run is_digit bs
has_form token.Decimal bs = false
has_form token.Symbol bs = is_symbol bs

-- no sign, no decimal, and a token of its kind's form
unfoldable pub is_filler : Lexeme → Bool
is_filler t = not (is_sign t) && (has_form t.kind t.bytes && not (is_long_for t.kind (length t.bytes)))

-- a sample of the class completes
abbrev pub can_fill : Class → Bool
can_fill class.Name = true
can_fill class.Whole = true
can_fill class.Decimal = false
can_fill class.Poset = true
can_fill class.Elements = true
can_fill class.Interface = true
can_fill class.Template = true
can_fill class.Catalogue = true
can_fill class.Choose = true
can_fill class.Mcdp = true
can_fill class.Provides = true
can_fill class.Requires = true
can_fill class.Row = true
can_fill class.Table = true
can_fill class.Instance = true
can_fill class.Ignore = true
can_fill class.Nat = true
can_fill class.Up = true
can_fill class.Product = true
can_fill class.Max = true
can_fill class.Min = true
can_fill class.Top = true
can_fill class.LeftBrace = true
can_fill class.RightBrace = true
can_fill class.LeftSquare = true
can_fill class.RightSquare = true
can_fill class.LeftRound = true
can_fill class.RightRound = true
can_fill class.Less = true
can_fill class.Greater = true
can_fill class.AtMost = true
can_fill class.AtLeast = true
can_fill class.Equals = true
can_fill class.Colon = true
can_fill class.Semicolon = true
can_fill class.Comma = true
can_fill class.Dot = true
can_fill class.Slash = true
can_fill class.Star = false
can_fill class.Plus = false
can_fill class.Caret = true
can_fill class.Minus = true
can_fill class.Arrow = true
