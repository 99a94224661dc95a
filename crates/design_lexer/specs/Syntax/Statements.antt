-- What has no token of a class, and what ends with its only `;`.
use Rattle.std.proofs.Common.{◌≡◌, Bool, not, IsTrue, List, [], ◌∷◌, ◌++◌}
use Rattle.std.specs.List.{list_all}
use Rattle.design_lexer.specs.Syntax.Classes.{Lexeme, is}
use Rattle.design_lexer.specs.declared.syntax.class.Class.TheVariants as class

abbrev pub is_plain : Lexeme → Bool
is_plain t = not (is class.Semicolon t)

-- No list that writes a value has a `;`.
abbrev pub HasNoEnd : {A : Type 0} → (List Lexeme → A → Type 0) → Type 0
HasNoEnd {A = A} W = (ts : List Lexeme) (x : A) → W ts x → IsTrue (list_all is_plain ts)

-- The last of the tokens is a `;`, and no other one is.
pub record IsStatement (ts : List Lexeme) : Type 0 where
  pub body : List Lexeme
  pub stop : Lexeme
  pub parts : ts ≡ body ++ stop ∷ []
  pub plain : IsTrue (list_all is_plain body)
  pub ends : IsTrue (is class.Semicolon stop)

abbrev pub AreStatements : {A : Type 0} → (List Lexeme → A → Type 0) → Type 0
AreStatements {A = A} W = (ts : List Lexeme) (x : A) → W ts x → IsStatement ts
