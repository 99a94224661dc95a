-- A loop that looks for the first sign past the limit, step by step.
use Rattle.std.proofs.Common.{◌≡◌, ℕ, zero, suc, ◌+◌, ◌-◌, ◌<◌, ◌≤◌, true, false, List, ◌∷◌, length, drop, slice_index_or, sym, ap, ◌∙◌, arith}
use Rattle.std.proofs.lemmas.List.{drop_more, drop_all, length-drop, length-map}
use Rattle.design_lexer.specs.declared.token.Token.{Token}
use Rattle.design_lexer.specs.declared.syntax.class.Class.TheVariants as class
use Rattle.design_lexer.specs.Syntax.Classes.{is, lexeme_of, lexemes_of}
use Rattle.design_lexer.specs.Syntax.Words.{is_sign}
use Rattle.design_lexer.specs.Syntax.Reading.{over}
use Rattle.design_lexer.specs.Syntax.FewLaws.{over_nothing, over_past, over_sign, over_end, over_other}

-- the tokens from the place on
next : (text : List ℕ) (ts : List Token) (i : ℕ) (d : Token) → i < length ts → lexemes_of text (drop i ts) ≡ lexeme_of text (slice_index_or ts i d) ∷ lexemes_of text (drop (i + 1) ts)
next text ts i d l = ap (lexemes_of text) (drop_more ts i d l)

pub at_limit : (text : List ℕ) (ts : List Token) (i left : ℕ) (d : Token) (total : ℕ) → i < length ts → is_sign (lexeme_of text (slice_index_or ts i d)) ≡ true → left ≡ 0
    → over left (lexemes_of text (drop i ts)) ≡ total → length ts - i ≡ total
at_limit text ts i left d total l s z e =
    sym (length-drop i ts) ∙ sym (length-map (drop i ts) (lexeme_of text)) ∙ ap length (next text ts i d l)
    ∙ sym (over_past (lexeme_of text (slice_index_or ts i d)) (lexemes_of text (drop (i + 1) ts)) s) ∙ ap (over 0) (sym (next text ts i d l)) ∙ ap (λ n. over n (lexemes_of text (drop i ts))) (sym z) ∙ e

pub at_stop : (text : List ℕ) (ts : List Token) (i left : ℕ) (d : Token) (total : ℕ) → i < length ts → is_sign (lexeme_of text (slice_index_or ts i d)) ≡ false → is class.Semicolon (lexeme_of text (slice_index_or ts i d)) ≡ true
    → over left (lexemes_of text (drop i ts)) ≡ total → 0 ≡ total
at_stop text ts i left d total l s k e = sym (over_end left (lexeme_of text (slice_index_or ts i d)) (lexemes_of text (drop (i + 1) ts)) s k) ∙ ap (over left) (sym (next text ts i d l)) ∙ e

pub past_sign : (text : List ℕ) (ts : List Token) (i left : ℕ) (d : Token) (total : ℕ) → i < length ts → is_sign (lexeme_of text (slice_index_or ts i d)) ≡ true → 0 < left
    → over left (lexemes_of text (drop i ts)) ≡ total → over (left - 1) (lexemes_of text (drop (i + 1) ts)) ≡ total
past_sign text ts i zero d total l s z e = absurd (omega (arith, z))
past_sign text ts i (suc n) d total l s z e =
    ap (λ k. over k (lexemes_of text (drop (i + 1) ts))) (less n) ∙ sym (over_sign n (lexeme_of text (slice_index_or ts i d)) (lexemes_of text (drop (i + 1) ts)) s)
    ∙ ap (over (suc n)) (sym (next text ts i d l)) ∙ e
  where
    less : (n : ℕ) → suc n - 1 ≡ n
    less n = omega arith

pub past_other : (text : List ℕ) (ts : List Token) (i left : ℕ) (d : Token) (total : ℕ) → i < length ts → is_sign (lexeme_of text (slice_index_or ts i d)) ≡ false → is class.Semicolon (lexeme_of text (slice_index_or ts i d)) ≡ false
    → over left (lexemes_of text (drop i ts)) ≡ total → over left (lexemes_of text (drop (i + 1) ts)) ≡ total
past_other text ts i left d total l s k e = sym (over_other left (lexeme_of text (slice_index_or ts i d)) (lexemes_of text (drop (i + 1) ts)) s k) ∙ ap (over left) (sym (next text ts i d l)) ∙ e

pub at_last : (text : List ℕ) (ts : List Token) (i left total : ℕ) → length ts ≤ i → over left (lexemes_of text (drop i ts)) ≡ total → 0 ≡ total
at_last text ts i left total l e = sym (over_nothing left) ∙ ap (λ us. over left (lexemes_of text us)) (sym (drop_all i ts l)) ∙ e
