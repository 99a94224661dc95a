-- A text cut a piece further.
use Rattle.std.proofs.Common.{◌≡◌, ◌∙◌, ◌≤◌, ◌<◌, ◌-◌, ◌+◌, refl, sym, ap, subst, arith, ℕ, zero, suc, Bool, true, false, List, [], ◌∷◌, ◌++◌, length, take, drop, Option, Some, None, cond, inl, inr}
use Rattle.std.proofs.lemmas.List.{drop-drop, length-drop}
use Rattle.design_lexer.specs.declared.piece.PieceKind.{PieceKind}
use Rattle.design_lexer.specs.declared.piece.Piece.{Piece}
use Rattle.design_lexer.specs.declared.piece.Start.{Start}
use Rattle.design_lexer.specs.declared.token.Token.{Token}
use Rattle.design_lexer.specs.Pieces.{IsPiece, is_too_long}
use Rattle.design_lexer.specs.Cut.{IsLongest, IsCut, token_of, tokens_of, BeginsBadly, IsFirstBad}
use Rattle.design_lexer.specs.Scan.{start_of, longest_piece, fit_from, fit_piece}
use Rattle.design_lexer.specs.StartLaws.{starts, not_empty}
use Rattle.design_lexer.proofs.Longest.{piece_longest}

-- ---- the next piece

-- the piece is the longest, and not too long
pub record IsNext (p : Piece) (text : List ℕ) : Type 0 where
  pub longest : IsLongest p text
  pub short : is_too_long p ≡ false

pub next_piece : (text : List ℕ) (p : Piece) → fit_piece text ≡ Some p → IsNext p text
next_piece [] p e = absurd (cc)
next_piece (b ∷ bs) p e = of (start_of b) refl e
  where
    fits : (q : Piece) → IsLongest q (b ∷ bs) → (long : Bool) → is_too_long q ≡ long → cond long None (Some q) ≡ Some p → IsNext p (b ∷ bs)
    fits q l true h f = absurd (cc)
    fits q l false h f =
        let same : q ≡ p = cc in
        subst (λ z. IsNext z (b ∷ bs)) same (record { longest = l; short = h })

    of : (o : Option Start) → start_of b ≡ o → fit_from o (b ∷ bs) ≡ Some p → IsNext p (b ∷ bs)
    of None h f = absurd (cc)
    of (Some s) h f = fits (longest_piece s (b ∷ bs)) (piece_longest s b bs h) (is_too_long (longest_piece s (b ∷ bs))) refl f

pub bad_begin : (text : List ℕ) → 0 < length text → fit_piece text ≡ None → BeginsBadly text
bad_begin [] l e = absurd (omega arith)
bad_begin (b ∷ bs) l e = of (start_of b) refl e
  where
    never : start_of b ≡ None → (k : PieceKind) (n : ℕ) → IsPiece k (take n (b ∷ bs)) → ⊥
    never h k zero p = not_empty k p
    never h k (suc n) p = let z = sym (starts k b (take n bs) p) ∙ h in cc

    long : (q : Piece) → IsLongest q (b ∷ bs) → (long : Bool) → is_too_long q ≡ long → cond long None (Some q) ≡ None → BeginsBadly (b ∷ bs)
    long q l true h f = inr (q, l, h)
    long q l false h f = absurd (cc)

    of : (o : Option Start) → start_of b ≡ o → fit_from o (b ∷ bs) ≡ None → BeginsBadly (b ∷ bs)
    of None h f = inl (never h)
    of (Some s) h f = long (longest_piece s (b ∷ bs)) (piece_longest s b bs h) (is_too_long (longest_piece s (b ∷ bs))) refl f

pub some_bytes : (p : Piece) (text : List ℕ) → IsLongest p text → 0 < p.len
some_bytes p text l = of p.len (λ h. not_empty p.kind (subst (λ n. IsPiece p.kind (take n text)) h l.is_piece))
  where
    of : (n : ℕ) → (n ≡ 0 → ⊥) → 0 < n
    of zero h = absurd (h refl)
    of (suc n) h = omega arith

-- ---- pieces in turn

abbrev pub total : List Piece → ℕ
total [] = 0
total (p ∷ ps) = p.len + total ps

cut_more : (text rest : List ℕ) (ps : List Piece) (p : Piece) → IsCut text ps rest → IsNext p rest → IsCut text (ps ++ p ∷ []) (drop p.len rest)
cut_more text rest [] p c l = (subst (IsLongest p) (sym c) l.longest, l.short, ap (drop p.len) c)
cut_more text rest (q ∷ ps) p c l = (c.0, c.1, cut_more (drop q.len text) rest ps p c.2 l)

append_assoc : (xs ys zs : List Token) → (xs ++ ys) ++ zs ≡ xs ++ (ys ++ zs)
append_assoc [] ys zs = refl
append_assoc (x ∷ xs) ys zs = ap (λ z. x ∷ z) (append_assoc xs ys zs)

tokens_more : (at : ℕ) (ps : List Piece) (p : Piece) → tokens_of at (ps ++ p ∷ []) ≡ tokens_of at ps ++ tokens_of (at + total ps) (p ∷ [])
tokens_more at [] p = ap (λ a. tokens_of a (p ∷ [])) (let e : at ≡ at + 0 = omega arith in e)
tokens_more at (q ∷ ps) p =
    let e : (at + q.len) + total ps ≡ at + (q.len + total ps) = omega arith in
    let r = tokens_more (at + q.len) ps p ∙ ap (λ a. tokens_of (at + q.len) ps ++ tokens_of a (p ∷ [])) e in
    ap (λ ts. token_of at q.kind q.len ++ ts) r ∙ sym (append_assoc (token_of at q.kind q.len) (tokens_of (at + q.len) ps) (tokens_of (at + (q.len + total ps)) (p ∷ [])))

total_more : (ps : List Piece) (p : Piece) → total (ps ++ p ∷ []) ≡ total ps + p.len
total_more [] p = omega arith
total_more (q ∷ ps) p = let r = total_more ps p in omega arith

-- The text is cut up to a place, and these are its tokens.
pub record IsCutTo (text : List ℕ) (at : ℕ) (tokens : List Token) : Type 0 where
  pub within : at ≤ length text
  pub pieces : List Piece
  pub cut : IsCut text pieces (drop at text)
  pub tokens_are : tokens ≡ tokens_of 0 pieces
  pub ends : total pieces ≡ at

pub at_start : (text : List ℕ) → IsCutTo text 0 []
at_start text = record { within = omega arith; pieces = []; cut = refl; tokens_are = refl; ends = refl }

pub step : (text : List ℕ) (at : ℕ) (tokens : List Token) (p : Piece) → IsCutTo text at tokens → fit_piece (drop at text) ≡ Some p
    → IsCutTo text (at + p.len) (tokens ++ tokens_of at (p ∷ []))
step text at tokens p c e =
    let l = next_piece (drop at text) p e in
    record {
      within = omega (arith, l.longest.within, length-drop at text, c.within);
      pieces = c.pieces ++ p ∷ [];
      cut = subst (λ z. IsCut text (c.pieces ++ p ∷ []) z) (drop-drop p.len at text) (cut_more text (drop at text) c.pieces p c.cut l);
      tokens_are =
          ap (λ z. z ++ tokens_of at (p ∷ [])) c.tokens_are
          ∙ ap (λ a. tokens_of 0 c.pieces ++ tokens_of a (p ∷ [])) (let q : at ≡ 0 + total c.pieces = omega (arith, c.ends) in q)
          ∙ sym (tokens_more 0 c.pieces p);
      ends = total_more c.pieces p ∙ omega (arith, c.ends);
    }

pub advances : (text : List ℕ) (at : ℕ) (p : Piece) → at < length text → fit_piece (drop at text) ≡ Some p → length text - (at + p.len) < length text - at
advances text at p l e = let n = next_piece (drop at text) p e in omega (arith, some_bytes p (drop at text) n.longest, l)

pub first_bad : (text : List ℕ) (at : ℕ) (tokens : List Token) → IsCutTo text at tokens → at < length text → fit_piece (drop at text) ≡ None → IsFirstBad text at
first_bad text at tokens c l e = record {
  before_end = l;
  pieces = c.pieces;
  cut = c.cut;
  bad = bad_begin (drop at text) (omega (arith, length-drop at text, l)) e;
}
