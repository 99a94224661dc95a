-- A text is cut into pieces in one way only.
use Rattle.std.proofs.Common.{◌≡◌, ◌∙◌, ◌≤◌, refl, sym, ap, subst, arith, ℕ, zero, suc, ◌+◌, true, false, cond, IsTrue, List, [], ◌∷◌, ◌++◌, length, take, drop, inl, inr}
use Rattle.std.proofs.lemmas.List.Folds.{list_all-append}
use Rattle.std.proofs.lemmas.List.{drop-drop, length-drop}
use Rattle.std.specs.List.{list_all}
use Rattle.design_lexer.specs.Cut.{IsLongest, IsCut, token_of, tokens_of, AreTokens, StandsIn, BeginsBadly, IsFirstBad}
use Rattle.design_lexer.specs.Pieces.{is_digit, is_named, is_reserved, IsPiece, is_long, is_too_long}
use Rattle.design_lexer.specs.Scan.{word_kind}
use Rattle.design_lexer.specs.StartLaws.{some_is, all_of_run, starts, not_empty}
use Rattle.design_lexer.specs.Starts.{start_for}
use Rattle.design_lexer.specs.declared.piece.Piece.{Piece}
use Rattle.design_lexer.specs.declared.piece.PieceKind.TheVariants as kind
use Rattle.design_lexer.specs.declared.piece.PieceKind.{PieceKind}
use Rattle.design_lexer.specs.declared.piece.Start.TheVariants as start
use Rattle.design_lexer.specs.declared.piece.Start.{Start}
use Rattle.design_lexer.specs.declared.token.Token.{Token}
use Rattle.design_lexer.specs.declared.token.TokenKind.TheVariants as token
use Rattle.order_core.specs.MemberLaws.{second, not_true}
use Rattle.order_core.specs.Pointwise.{Each}
use Rattle.std.proofs.Math.Bool.{and-false}

-- the kind of the piece that these bytes are, where they begin so
abbrev pub kind_at : Start → List ℕ → PieceKind
kind_at start.Space bs = kind.Spaces
kind_at start.Hash bs = kind.Comment
kind_at start.Letter bs = kind.Token (word_kind bs)
kind_at start.Digit bs = kind.Token (cond (list_all is_digit bs) token.Whole token.Decimal)
kind_at start.Sign bs = kind.Token token.Symbol

point_between : (whole part : List ℕ) → list_all is_digit (whole ++ 46 ∷ part) ≡ false
point_between whole part = list_all-append is_digit whole (46 ∷ part) ∙ and-false (list_all is_digit whole)

kind_is : (k : PieceKind) (bs : List ℕ) → IsPiece k bs → k ≡ kind_at (start_for k) bs
kind_is kind.Spaces bs h = refl
kind_is kind.Comment bs h = refl
kind_is (kind.Token token.Name) bs h = rw (not_true (is_reserved bs) (second (is_named bs) _ h)) refl
kind_is (kind.Token token.Word) bs h = rw h refl
kind_is (kind.Token token.Whole) bs h = rw (all_of_run is_digit bs h) refl
kind_is (kind.Token token.Decimal) bs h = rw (ap (list_all is_digit) h.parts ∙ point_between h.whole h.part) refl
kind_is (kind.Token token.Symbol) bs h = refl

pub kinds_same : (j k : PieceKind) (bs : List ℕ) → IsPiece j bs → IsPiece k bs → j ≡ k
kinds_same j k [] p q = absurd (not_empty j p)
kinds_same j k (b ∷ bs) p q =
    let same : start_for j ≡ start_for k = some_is (start_for j) (start_for k) (sym (starts j b bs p) ∙ starts k b bs q) in
    kind_is j (b ∷ bs) p ∙ ap (λ s. kind_at s (b ∷ bs)) same ∙ sym (kind_is k (b ∷ bs) q)

-- ---- the longest piece

pub longest_same : (p q : Piece) (text : List ℕ) → IsLongest p text → IsLongest q text → p ≡ q
longest_same p q text l m =
    let len : p.len ≡ q.len = omega (arith, l.longest q.kind q.len m.within m.is_piece, m.longest p.kind p.len l.within l.is_piece) in
    let kinds : p.kind ≡ q.kind = kinds_same p.kind q.kind (take q.len text) (subst (λ n. IsPiece p.kind (take n text)) len l.is_piece) m.is_piece in
    λ i. record { kind = kinds i; len = len i }

-- ---- the pieces of a text

-- no piece that is short enough is the longest at the front of the text
abbrev pub NoNext : List ℕ → Type 0
NoNext text = (p : Piece) → IsLongest p text → is_too_long p ≡ false → ⊥

pub no_next_end : NoNext []
no_next_end p l e = of p.len l.is_piece
  where
    of : (n : ℕ) → IsPiece p.kind (take n []) → ⊥
    of zero h = not_empty p.kind h
    of (suc n) h = not_empty p.kind h

pub no_next_bad : (text : List ℕ) → BeginsBadly text → NoNext text
no_next_bad text (inl never) p l e = never p.kind p.len l.is_piece
no_next_bad text (inr bad) p l e =
    let same : bad.0 ≡ p = longest_same bad.0 p text bad.1 l in
    let long : is_too_long p ≡ true = subst (λ z. IsTrue (is_too_long z)) same bad.2 in
    cc

-- the same pieces, and the same rest
pub record SameCut (ps qs : List Piece) (r s : List ℕ) : Type 0 where
  pub pieces : ps ≡ qs
  pub rest : r ≡ s

pub cuts_same : (text : List ℕ) (ps qs : List Piece) (r s : List ℕ) → IsCut text ps r → IsCut text qs s → NoNext r → NoNext s → SameCut ps qs r s
cuts_same text [] [] r s c d n m = record { pieces = refl; rest = sym c ∙ d }
cuts_same text [] (q ∷ qs) r s c d n m = absurd (n q (subst (IsLongest q) c d.0) d.1)
cuts_same text (p ∷ ps) [] r s c d n m = absurd (m p (subst (IsLongest p) d c.0) c.1)
cuts_same text (p ∷ ps) (q ∷ qs) r s c d n m =
    let same : p ≡ q = longest_same p q text c.0 d.0 in
    let rest = cuts_same (drop q.len text) ps qs r s (subst (λ z. IsCut (drop z.len text) ps r) same c.2) d.2 n m in
    record { pieces = ap (λ z. z ∷ ps) same ∙ ap (λ zs. q ∷ zs) rest.pieces; rest = rest.rest }

-- ---- the answers on a text

pub tokens_same : (text : List ℕ) (xs ys : List Token) → AreTokens text xs → AreTokens text ys → xs ≡ ys
tokens_same text xs ys h k =
    h.2 ∙ ap (tokens_of 0) (cuts_same text h.0 k.0 [] [] h.1 k.1 no_next_end no_next_end).pieces ∙ sym k.2

pub never_both : (text : List ℕ) (xs : List Token) (at : ℕ) → AreTokens text xs → IsFirstBad text at → ⊥
never_both text xs at h k =
    let same = (cuts_same text h.0 k.pieces [] (drop at text) h.1 k.cut no_next_end (no_next_bad _ k.bad)).rest in
    let lengths : 0 ≡ length (drop at text) = ap length same in
    absurd (omega (arith, lengths, length-drop at text, k.before_end))

pub first_bad_same : (text : List ℕ) (a b : ℕ) → IsFirstBad text a → IsFirstBad text b → a ≡ b
first_bad_same text a b h k =
    let same = (cuts_same text h.pieces k.pieces (drop a text) (drop b text) h.cut k.cut (no_next_bad _ h.bad) (no_next_bad _ k.bad)).rest in
    let lengths : length (drop a text) ≡ length (drop b text) = ap length same in
    omega (arith, lengths, length-drop a text, length-drop b text, h.before_end, k.before_end)

-- ---- each token

token_stands : (text : List ℕ) (at : ℕ) (k : PieceKind) (n : ℕ) (ts : List Token) → at + n ≤ length text → IsPiece k (take n (drop at text)) → is_long k n ≡ false
    → Each (StandsIn text) ts → Each (StandsIn text) (token_of at k n ++ ts)
token_stands text at kind.Spaces n ts l h s e = e
token_stands text at kind.Comment n ts l h s e = e
token_stands text at (kind.Token t) n ts l h s e = (record { within = l; form = h; short = s }, e)

pieces_stand : (text : List ℕ) (at : ℕ) (ps : List Piece) → at ≤ length text → IsCut (drop at text) ps [] → Each (StandsIn text) (tokens_of at ps)
pieces_stand text at [] l c = tt
pieces_stand text at (p ∷ ps) l c =
    let within : at + p.len ≤ length text = omega (arith, length-drop at text, c.0.within, l) in
    token_stands text at p.kind p.len (tokens_of (at + p.len) ps) within c.0.is_piece c.1
    (pieces_stand text (at + p.len) ps within (subst (λ z. IsCut z ps []) (drop-drop p.len at text) c.2))

pub tokens_stand : (text : List ℕ) (ts : List Token) → AreTokens text ts → Each (StandsIn text) ts
tokens_stand text ts h = subst (Each (StandsIn text)) (sym h.2) (pieces_stand text 0 h.0 (omega arith) h.1)
