-- A token of digits is short.
use Rattle.std.proofs.Common.{◌≡◌, ℕ, ◌≤◌, true, false, List, [], ◌∷◌, IsTrue, length, slice_index_or, arith, ◌||◌, Bool, refl}
use Rattle.std.proofs.lemmas.Bool.Decides.{nat_tests}
use Rattle.order_core.specs.Pointwise.{Each}
use Rattle.design_lexer.specs.declared.token.TokenKind.{TokenKind}
use Rattle.design_lexer.specs.declared.token.TokenKind.TheVariants as token
use Rattle.design_lexer.specs.declared.token.Token.{Token}
use Rattle.design_lexer.specs.Cut.{StandsIn}
use Rattle.design_lexer.specs.Pieces.{is_long_for}
use Rattle.design_lexer.specs.declared.syntax.class.Class.TheVariants as class
use Rattle.design_lexer.specs.Syntax.Classes.{is, one_of, starts, lexeme_of, lexemes_of}
use Rattle.design_lexer.specs.Syntax.Spelled.{numbers}

by_kind : (k : TokenKind) (at n : ℕ) (bs : List ℕ) → is_long_for k n ≡ false → IsTrue (one_of numbers (record { kind = k; at = at; bytes = bs })) → n ≤ 21
unfolding is
by_kind token.Name at n bs s h = absurd (let z : false ≡ true = h in cc)
by_kind token.Word at n bs s h = absurd (let z : false ≡ true = h in cc)
by_kind token.Whole at n bs s h = grind (arith, nat_tests, s)
by_kind token.Decimal at n bs s h = grind (arith, nat_tests, s)
by_kind token.Symbol at n bs s h = absurd (let z : false ≡ true = h in cc)

pub number_short : (text : List ℕ) (ts : List Token) (d : Token) → IsTrue (starts (one_of numbers) (lexemes_of text ts)) → Each (StandsIn text) ts → (slice_index_or ts 0 d).len ≤ 21
number_short text [] d h e = absurd (let z : false ≡ true = h in cc)
number_short text (t ∷ ts) d h e = by_kind t.kind t.at t.len _ e.0.short h

pub whole_short : (text : List ℕ) (ts : List Token) (d : Token) → 1 ≤ length ts → is class.Whole (lexeme_of text (slice_index_or ts 0 d)) ≡ true → Each (StandsIn text) ts → (slice_index_or ts 0 d).len ≤ 21
whole_short text [] d l h e = absurd (omega (arith, l))
whole_short text (t ∷ ts) d l h e = by_kind t.kind t.at t.len _ e.0.short (first_of (is class.Whole (lexeme_of text t)) _ h)
  where
    first_of : (a b : Bool) → a ≡ true → IsTrue (a || b)
    first_of a b h = rw h refl
