-- A text cut into pieces, and its tokens.
use Rattle.std.specs.Prelude.{◌≡◌, ℕ, ◌+◌, ◌≤◌, ◌<◌, false, IsTrue, List, [], ◌∷◌, ◌++◌, length, take, drop, ◌⊎◌}
use Rattle.std.specs.Str.{IsUtf8}
use Rattle.design_lexer.specs.declared.piece.PieceKind.{PieceKind}
use Rattle.design_lexer.specs.declared.piece.PieceKind.TheVariants as piece
use Rattle.design_lexer.specs.declared.piece.Piece.{Piece}
use Rattle.design_lexer.specs.declared.token.Token.{Token}
use Rattle.design_lexer.specs.declared.scan.LexFault.{LexFault}
use Rattle.design_lexer.specs.declared.scan.LexFault.TheVariants as fault
use Rattle.design_lexer.specs.Pieces.{HasForm, IsPiece, is_long_for, is_too_long}

-- The text begins with the piece, and with no longer one.
pub record IsLongest (p : Piece) (text : List ℕ) : Type 0 where
  pub within : p.len ≤ length text
  pub is_piece : IsPiece p.kind (take p.len text)
  pub longest : (kind : PieceKind) (n : ℕ) → n ≤ length text → IsPiece kind (take n text) → n ≤ p.len

-- The text is cut from the left into the pieces, up to the rest: each is the longest at its place, and none is too long.
abbrev pub IsCut : List ℕ → List Piece → List ℕ → Type 0
IsCut text [] rest = text ≡ rest
IsCut text (p ∷ ps) rest = IsLongest p text × (is_too_long p ≡ false) × IsCut (drop p.len text) ps rest

abbrev pub token_of : ℕ → PieceKind → ℕ → List Token
token_of at piece.Spaces len = []
token_of at piece.Comment len = []
token_of at (piece.Token kind) len = record { kind = kind; at = at; len = len } ∷ []

-- the tokens among the pieces, the first of which stands at the place
abbrev pub tokens_of : ℕ → List Piece → List Token
tokens_of at [] = []
tokens_of at (p ∷ ps) = token_of at p.kind p.len ++ tokens_of (at + p.len) ps

-- The text is cut into pieces to its end, and these are the tokens among them.
abbrev pub AreTokens : List ℕ → List Token → Type 0
AreTokens text tokens = (pieces : List Piece) × IsCut text pieces [] × (tokens ≡ tokens_of 0 pieces)

-- The token stands in the text: its bytes there have the form of its kind, and it isn't too long.
pub record StandsIn (text : List ℕ) (t : Token) : Type 0 where
  pub within : t.at + t.len ≤ length text
  pub form : HasForm t.kind (take t.len (drop t.at text))
  pub short : is_long_for t.kind t.len ≡ false

-- No token, space or comment stands at the front of the text: it begins with no piece, or the longest one is too long.
abbrev pub BeginsBadly : List ℕ → Type 0
BeginsBadly text = ((kind : PieceKind) (n : ℕ) → IsPiece kind (take n text) → ⊥) ⊎ (p : Piece) × IsLongest p text × IsTrue (is_too_long p)

-- The text is cut into pieces up to the place, which is before its end, and no token, space or comment stands there.
pub record IsFirstBad (text : List ℕ) (at : ℕ) : Type 0 where
  pub before_end : at < length text
  pub pieces : List Piece
  pub cut : IsCut text pieces (drop at text)
  pub bad : BeginsBadly (drop at text)

-- why the text has no tokens
abbrev pub IsRefused : List ℕ → LexFault → Type 0
IsRefused text fault.NotText = IsUtf8 text → ⊥
IsRefused text (fault.BadToken at) = IsUtf8 text × IsFirstBad text at
IsRefused text fault.Memory = Unit {0}
