-- The longest piece as it is computed.
use Rattle.std.specs.Prelude.{ℕ, suc, ◌+◌, Bool, false, not, cond, ◌||◌, ◌==◌, List, [], ◌∷◌, take, drop, Option, Some, None}
use Rattle.design_lexer.specs.declared.token.TokenKind.{TokenKind}
use Rattle.design_lexer.specs.declared.token.TokenKind.TheVariants as token
use Rattle.design_lexer.specs.declared.piece.PieceKind.TheVariants as kind
use Rattle.design_lexer.specs.declared.piece.Piece.{Piece}
use Rattle.design_lexer.specs.declared.piece.Start.{Start}
use Rattle.design_lexer.specs.declared.piece.Start.TheVariants as start
use Rattle.design_lexer.specs.Pieces.{is_space, is_letter, is_digit, is_sign, is_pair, is_reserved, is_too_long}

-- what a byte tells of a piece that begins with it
unfoldable pub start_of : ℕ → Option Start
start_of b =
    cond (is_space b) (Some start.Space)
    (cond (b == 35) (Some start.Hash)
    (cond (is_letter b) (Some start.Letter)
    (cond (is_digit b) (Some start.Digit)
    (cond (is_sign b) (Some start.Sign) None))))

-- which bytes may stand in it
unfoldable pub goes_on : Start → ℕ → Bool
goes_on start.Space b = is_space b
goes_on start.Hash b = not (b == 10)
goes_on start.Letter b = is_letter b || is_digit b
goes_on start.Digit b = is_digit b
goes_on start.Sign b = false

-- how many of the first bytes pass
abbrev pub run : (ℕ → Bool) → List ℕ → ℕ
run test [] = 0
run test (b ∷ bs) = cond (test b) (suc (run test bs)) 0

abbrev pub word_kind : List ℕ → TokenKind
word_kind bs = cond (is_reserved bs) token.Word token.Name

abbrev pub word : List ℕ → Piece
word bs = record { kind = kind.Token (word_kind (take (run (goes_on start.Letter) bs) bs)); len = run (goes_on start.Letter) bs }

abbrev pub point_and : ℕ → ℕ
point_and n = cond (n == 0) 0 (n + 1)

abbrev pub fraction : List ℕ → ℕ
fraction [] = 0
fraction (p ∷ ds) = cond (p == 46) (point_and (run (goes_on start.Digit) ds)) 0

abbrev pub number_kind : ℕ → TokenKind
number_kind n = cond (n == 0) token.Whole token.Decimal

abbrev pub number_of : ℕ → List ℕ → Piece
number_of n rest = record { kind = kind.Token (number_kind (fraction rest)); len = n + fraction rest }

abbrev pub number : List ℕ → Piece
number bs = number_of (run (goes_on start.Digit) bs) (drop (run (goes_on start.Digit) bs) bs)

abbrev pub symbol_len : List ℕ → ℕ
symbol_len [] = 1
symbol_len (a ∷ []) = 1
symbol_len (a ∷ b ∷ bs) = cond (is_pair a b) 2 1

abbrev pub longest_piece : Start → List ℕ → Piece
longest_piece start.Space bs = record { kind = kind.Spaces; len = run (goes_on start.Space) bs }
longest_piece start.Hash bs = record { kind = kind.Comment; len = run (goes_on start.Hash) bs }
longest_piece start.Letter bs = word bs
longest_piece start.Digit bs = number bs
longest_piece start.Sign bs = record { kind = kind.Token token.Symbol; len = symbol_len bs }

abbrev pub fit : Piece → Option Piece
fit p = cond (is_too_long p) None (Some p)

abbrev pub fit_from : Option Start → List ℕ → Option Piece
fit_from None bs = None
fit_from (Some s) bs = fit (longest_piece s bs)

-- the longest piece that the bytes begin with, unless it is too long
abbrev pub fit_piece : List ℕ → Option Piece
fit_piece [] = None
fit_piece (b ∷ bs) = fit_from (start_of b) (b ∷ bs)
