-- The first byte of a piece tells of it.
use Rattle.std.proofs.Common.{ℕ, Bool, ◌==◌}
use Rattle.design_lexer.specs.Pieces.{is_space, is_letter, is_digit, is_sign}
use Rattle.design_lexer.specs.declared.piece.PieceKind.TheVariants as kind
use Rattle.design_lexer.specs.declared.piece.PieceKind.{PieceKind}
use Rattle.design_lexer.specs.declared.piece.Start.TheVariants as start
use Rattle.design_lexer.specs.declared.piece.Start.{Start}
use Rattle.design_lexer.specs.declared.token.TokenKind.TheVariants as token

-- how a piece of the kind begins
abbrev pub start_for : PieceKind → Start
start_for kind.Spaces = start.Space
start_for kind.Comment = start.Hash
start_for (kind.Token token.Name) = start.Letter
start_for (kind.Token token.Word) = start.Letter
start_for (kind.Token token.Whole) = start.Digit
start_for (kind.Token token.Decimal) = start.Digit
start_for (kind.Token token.Symbol) = start.Sign

-- ---- and back

abbrev pub tells : Start → ℕ → Bool
tells start.Space b = is_space b
tells start.Hash b = b == 35
tells start.Letter b = is_letter b
tells start.Digit b = is_digit b
tells start.Sign b = is_sign b
