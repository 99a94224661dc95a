-- Where tokens that write nothing go wrong.
use Rattle.std.specs.Prelude.{◌≡◌, ℕ, false, List, [], ◌∷◌, ◌++◌, length}
use Rattle.order_core.specs.Pointwise.{Each}
use Rattle.design_lexer.specs.Pieces.{HasForm, is_long_for}
use Rattle.design_lexer.specs.Syntax.Classes.{Lexeme}
use Rattle.design_lexer.specs.Syntax.Words.{place_or}

-- Its bytes have the form of its kind, and aren't too many.
pub record IsProper (t : Lexeme) : Type 0 where
  pub form : HasForm t.kind t.bytes
  pub short : is_long_for t.kind (length t.bytes) ≡ false

-- Some list that writes a value begins with these tokens.
pub record Begun {A : Type 0} (W : List Lexeme → A → Type 0) (ts : List Lexeme) : Type 0 where
  pub tail : List Lexeme
  pub value : A
  pub proper : Each IsProper tail
  pub written : W (ts ++ tail) value

-- With the first token of the rest, none does.
abbrev pub Dead : {A : Type 0} → (List Lexeme → A → Type 0) → List Lexeme → List Lexeme → Type 0
Dead W front [] = Unit {0}
Dead W front (t ∷ ts) = Begun W (front ++ t ∷ []) → ⊥

-- The tokens write nothing, and this is the place of the first one such that no list that writes a value begins with the tokens up to and with it, or the end.
pub record FailsAt {A : Type 0} (W : List Lexeme → A → Type 0) (end : ℕ) (ts : List Lexeme) (at : ℕ) : Type 0 where
  pub never : (x : A) → W ts x → ⊥
  pub front : List Lexeme
  pub rest : List Lexeme
  pub parts : ts ≡ front ++ rest
  pub place : at ≡ place_or end rest
  pub begun : Begun W front
  pub dead : Dead W front rest
