-- Tokens that complete a list: short ones of their kind's form, and no sign.
use Rattle.std.proofs.Common.{◌≡◌, refl, ℕ, true, false, not, IsTrue, List, [], ◌∷◌}
use Rattle.std.specs.List.{list_all}
use Rattle.design_lexer.specs.Pieces.{is_reserved, HasForm}
use Rattle.design_lexer.specs.declared.token.TokenKind.TheVariants as token
use Rattle.design_lexer.specs.declared.token.TokenKind.{TokenKind}
use Rattle.design_lexer.specs.Syntax.Classes.{Lexeme, is, sample}
use Rattle.design_lexer.specs.Syntax.Faults.{IsProper}
use Rattle.design_lexer.specs.Syntax.Fillers.{can_fill, has_form, is_filler}
use Rattle.design_lexer.specs.Syntax.Words.{is_sign}
use Rattle.design_lexer.specs.declared.syntax.class.Class.TheVariants as class
use Rattle.design_lexer.specs.declared.syntax.class.Class.{Class}
use Rattle.order_core.specs.MemberLaws.{first, second, not_true}
use Rattle.order_core.specs.Pointwise.{Each}

formed : (k : TokenKind) (bs : List ℕ) → IsTrue (has_form k bs) → HasForm k bs
formed token.Name bs h = h
formed token.Word bs h = h
formed token.Whole bs h = h
formed token.Decimal bs h = absurd (let z : false ≡ true = h in cc)
formed token.Symbol bs h = h

pub filler_proper : (t : Lexeme) → IsTrue (is_filler t) → IsProper t
unfolding is_filler
filler_proper t h =
    let rest = second (not (is_sign t)) _ h in
    record { form = formed t.kind t.bytes (first (has_form t.kind t.bytes) _ rest); short = not_true _ (second (has_form t.kind t.bytes) _ rest) }

pub filler_quiet : (t : Lexeme) → IsTrue (is_filler t) → is_sign t ≡ false
unfolding is_filler
filler_quiet t h = not_true (is_sign t) (first (not (is_sign t)) _ h)

pub fillers_proper : (ts : List Lexeme) → IsTrue (list_all is_filler ts) → Each IsProper ts
fillers_proper [] h = tt
fillers_proper (t ∷ ts) h = (filler_proper t (first (is_filler t) _ h), fillers_proper ts (second (is_filler t) _ h))

pub sample_fills : (c : Class) → can_fill c ≡ true → IsTrue (is_filler (sample c))
unfolding is_filler is is_reserved
sample_fills class.Name h = refl
sample_fills class.Whole h = refl
sample_fills class.Decimal h = absurd (let z : false ≡ true = h in cc)
sample_fills class.Poset h = refl
sample_fills class.Elements h = refl
sample_fills class.Interface h = refl
sample_fills class.Template h = refl
sample_fills class.Catalogue h = refl
sample_fills class.Choose h = refl
sample_fills class.Mcdp h = refl
sample_fills class.Provides h = refl
sample_fills class.Requires h = refl
sample_fills class.Row h = refl
sample_fills class.Table h = refl
sample_fills class.Instance h = refl
sample_fills class.Ignore h = refl
sample_fills class.Nat h = refl
sample_fills class.Up h = refl
sample_fills class.Product h = refl
sample_fills class.Max h = refl
sample_fills class.Min h = refl
sample_fills class.Top h = refl
sample_fills class.LeftBrace h = refl
sample_fills class.RightBrace h = refl
sample_fills class.LeftSquare h = refl
sample_fills class.RightSquare h = refl
sample_fills class.LeftRound h = refl
sample_fills class.RightRound h = refl
sample_fills class.Less h = refl
sample_fills class.Greater h = refl
sample_fills class.AtMost h = refl
sample_fills class.AtLeast h = refl
sample_fills class.Equals h = refl
sample_fills class.Colon h = refl
sample_fills class.Semicolon h = refl
sample_fills class.Comma h = refl
sample_fills class.Dot h = refl
sample_fills class.Slash h = refl
sample_fills class.Star h = absurd (let z : false ≡ true = h in cc)
sample_fills class.Plus h = absurd (let z : false ≡ true = h in cc)
sample_fills class.Caret h = refl
sample_fills class.Minus h = refl
sample_fills class.Arrow h = refl
