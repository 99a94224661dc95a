-- Any number of parts, one after the other.
use Rattle.std.proofs.Common.{◌≡◌, ℕ, Bool, true, IsTrue, List, ◌++◌, Result, Ok, Err}
use Rattle.design_lexer.specs.Syntax.Classes.{Lexeme, starts, stops}
use Rattle.design_lexer.specs.Syntax.Parts.{Took, Stuck, Begins}

-- one of many: read only where the test holds
pub record Repeated {A : Type 0} (on test : Lexeme → Bool) (W : List Lexeme → A → Type 0) (p : List Lexeme → Result (A × List Lexeme) ℕ) : Type 0 where
  pub took : (ts : List Lexeme) (x : A) (rest : List Lexeme) → starts test ts ≡ true → p ts ≡ Ok (x, rest) → Took W p ts x rest
  pub stuck : (ts : List Lexeme) (n : ℕ) → starts test ts ≡ true → p ts ≡ Err n → Stuck W p ts n
  pub again : (ts : List Lexeme) (x : A) (rest : List Lexeme) → W ts x → IsTrue (stops on rest) → p (ts ++ rest) ≡ Ok (x, rest)
  pub begins : Begins test W
