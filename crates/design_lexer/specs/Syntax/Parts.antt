-- A reader meets a relation: laws about lists alone, one for each way to put relations together.
use Rattle.std.proofs.Common.{◌≡◌, ℕ, Bool, IsTrue, List, [], ◌∷◌, ◌++◌, length, Result, Ok, Err}
use Rattle.std.specs.List.{list_all}
use Rattle.design_lexer.specs.Syntax.Classes.{Lexeme, starts, stops, one_of}
use Rattle.design_lexer.specs.Syntax.Fillers.{is_filler}

-- both lists begin with the same token
abbrev pub SameHead : List Lexeme → List Lexeme → Type 0
SameHead [] more = ⊥
SameHead (t ∷ ts) [] = ⊥
SameHead (t ∷ ts) (u ∷ us) = t ≡ u

-- tokens without signs complete these
pub record Opens {A : Type 0} (W : List Lexeme → A → Type 0) (ts : List Lexeme) : Type 0 where
  pub tail : List Lexeme
  pub value : A
  pub filled : IsTrue (list_all is_filler tail)
  pub written : W (ts ++ tail) value

-- the value is written by the tokens before rest, and only the first of those after them was looked at
pub record Took {A : Type 0} (W : List Lexeme → A → Type 0) (p : List Lexeme → Result (A × List Lexeme) ℕ) (ts : List Lexeme) (x : A) (rest : List Lexeme) : Type 0 where
  pub front : List Lexeme
  pub parts : ts ≡ front ++ rest
  pub written : W front x
  pub same : (more : List Lexeme) → SameHead rest more → p (front ++ more) ≡ Ok (x, more)

-- nothing goes on after the front, and the front can be completed
pub record Stuck {A : Type 0} (W : List Lexeme → A → Type 0) (p : List Lexeme → Result (A × List Lexeme) ℕ) (ts : List Lexeme) (n : ℕ) : Type 0 where
  pub front : List Lexeme
  pub rest : List Lexeme
  pub parts : ts ≡ front ++ rest
  pub left : n ≡ length rest
  pub opens : Opens W front
  pub same : (more : List Lexeme) → SameHead rest more → p (front ++ more) ≡ Err (length more)

-- the way of reading p meets the relation W, where no token that passes `on` may follow
pub record Reads {A : Type 0} (on : Lexeme → Bool) (W : List Lexeme → A → Type 0) (p : List Lexeme → Result (A × List Lexeme) ℕ) : Type 0 where
  pub took : (ts : List Lexeme) (x : A) (rest : List Lexeme) → p ts ≡ Ok (x, rest) → Took W p ts x rest
  pub stuck : (ts : List Lexeme) (n : ℕ) → p ts ≡ Err n → Stuck W p ts n
  pub again : (ts : List Lexeme) (x : A) (rest : List Lexeme) → W ts x → IsTrue (stops on rest) → p (ts ++ rest) ≡ Ok (x, rest)

-- and something is written without a sign
pub record Part {A : Type 0} (on : Lexeme → Bool) (W : List Lexeme → A → Type 0) (p : List Lexeme → Result (A × List Lexeme) ℕ) : Type 0 where
  pub reads : Reads on W p
  pub begin : Opens W []

-- what is written begins with a token that passes the test
pub record Begins {A : Type 0} (test : Lexeme → Bool) (W : List Lexeme → A → Type 0) : Type 0 where
  pub at : (ts : List Lexeme) (x : A) → W ts x → IsTrue (starts test ts)

-- ---- small tools

abbrev pub done : {A : Type 0} → A → Result A ℕ
done x = Ok x

-- ---- one after the other

abbrev pub Follows : {A B : Type 0} (on off : Lexeme → Bool) (V : A → List Lexeme → B → Type 0) → Type 0
Follows {A = A} {B = B} on off V = (x : A) (b : List Lexeme) (y : B) (rest : List Lexeme) → V x b y → IsTrue (stops off rest) → IsTrue (stops on (b ++ rest))

-- ---- one token

abbrev pub none : Lexeme → Bool
none = one_of []
