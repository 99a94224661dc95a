-- All of the tokens.
use Rattle.std.proofs.Common.{◌≡◌, ℕ, List, ◌++◌, length}
use Rattle.design_lexer.specs.Syntax.Classes.{Lexeme}
use Rattle.design_lexer.specs.Syntax.Faults.{Dead}
use Rattle.design_lexer.specs.Syntax.Parts.{Opens}

-- the tokens up to the fault are completed without signs, and with the next one nothing is written
pub record Stops {A : Type 0} (W : List Lexeme → A → Type 0) (ts : List Lexeme) (n : ℕ) : Type 0 where
  pub front : List Lexeme
  pub rest : List Lexeme
  pub parts : ts ≡ front ++ rest
  pub left : n ≡ length rest
  pub opens : Opens W front
  pub dead : Dead W front rest
  pub never : (x : A) → W ts x → ⊥
