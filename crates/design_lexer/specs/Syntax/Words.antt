-- What it is that tokens write something: the words that a grammar is put together from. Each is a relation between a list of tokens and a value.
use Rattle.std.specs.Prelude.{◌≡◌, ℕ, suc, ◌≤◌, Bool, cond, IsTrue, List, [], ◌∷◌, ◌++◌, ◌⊎◌, Option, Some, None}
use Rattle.design_lexer.specs.declared.syntax.class.Class.{Class}
use Rattle.design_lexer.specs.declared.syntax.class.Class.TheVariants as class
use Rattle.design_lexer.specs.Syntax.Classes.{Lexeme, is, one_of}

-- one token that passes the test
pub record One (test : Lexeme → Bool) (ts : List Lexeme) (t : Lexeme) : Type 0 where
  pub is : ts ≡ t ∷ []
  pub passes : IsTrue (test t)

-- no token, for the value x
pub record Nothing {A : Type 0} (x : A) (ts : List Lexeme) (y : A) : Type 0 where
  pub is : ts ≡ []
  pub same : y ≡ x

-- the first, and after it the second, which may depend on the first's value
pub record Then {A B : Type 0} (W : List Lexeme → A → Type 0) (V : A → List Lexeme → B → Type 0) (ts : List Lexeme) (y : B) : Type 0 where
  pub front : List Lexeme
  pub back : List Lexeme
  pub value : A
  pub parts : ts ≡ front ++ back
  pub first : W front value
  pub second : V value back y

-- the same tokens, for another value
pub record Made {A B : Type 0} (f : A → B) (W : List Lexeme → A → Type 0) (ts : List Lexeme) (y : B) : Type 0 where
  pub value : A
  pub written : W ts value
  pub is : y ≡ f value

-- one or the other
abbrev pub Either : {A : Type 0} → (List Lexeme → A → Type 0) → (List Lexeme → A → Type 0) → List Lexeme → A → Type 0
Either W V ts x = W ts x ⊎ V ts x

-- each value in turn
abbrev pub Many : {A : Type 0} → (List Lexeme → A → Type 0) → List Lexeme → List A → Type 0
Many W ts [] = ts ≡ []
Many W ts (x ∷ xs) = (a : List Lexeme) × (b : List Lexeme) × (ts ≡ a ++ b) × W a x × Many W b xs

-- the place of the first token, or the end
abbrev pub place_or : ℕ → List Lexeme → ℕ
place_or end [] = end
place_or end (t ∷ ts) = t.at

-- with the place of the first of the tokens
pub record Placed {A : Type 0} (W : List Lexeme → A → Type 0) (ts : List Lexeme) (y : A × ℕ) : Type 0 where
  pub written : W ts y.0
  pub place : y.1 ≡ place_or 0 ts

abbrev pub is_sign : Lexeme → Bool
is_sign = one_of (class.Plus ∷ class.Star ∷ [])

-- how many of the tokens are a sign `+` or `*`
abbrev pub signs : List Lexeme → ℕ
signs [] = 0
signs (t ∷ ts) = cond (is_sign t) (suc (signs ts)) (signs ts)

-- with at most so many signs
pub record Few {A : Type 0} (limit : ℕ) (W : List Lexeme → A → Type 0) (ts : List Lexeme) (x : A) : Type 0 where
  pub written : W ts x
  pub few : signs ts ≤ limit

-- ---- put together from these

-- from left to right
abbrev pub fold : {A B : Type 0} → (B → A → B) → B → List A → B
fold f y [] = y
fold f y (x ∷ xs) = fold f (f y x) xs

abbrev pub at_end : {A : Type 0} → List A → A → List A
at_end xs x = xs ++ x ∷ []

-- a token of the class, and then what is left
abbrev pub Sym : {B : Type 0} → Class → (List Lexeme → B → Type 0) → List Lexeme → B → Type 0
Sym c V = Then (One (is c)) (λ _. V)

-- the place of a token of the class
abbrev pub Mark : Class → List Lexeme → ℕ → Type 0
Mark c = Made (λ t. t.at) (One (is c))

-- [ W ], and the value x where there is none
abbrev pub Else : {A : Type 0} → A → (List Lexeme → A → Type 0) → List Lexeme → A → Type 0
Else x W = Either W (Nothing x)

-- [ W ]
abbrev pub Maybe : {A : Type 0} → (List Lexeme → A → Type 0) → List Lexeme → Option A → Type 0
Maybe W = Else None (Made (λ x. Some x) W)

-- { W }, each joined to what stands before
abbrev pub Folded : {A B : Type 0} → (B → A → B) → B → (List Lexeme → A → Type 0) → List Lexeme → B → Type 0
Folded f y W = Made (fold f y) (Many W)

-- { W }
abbrev pub Any : {A : Type 0} → (List Lexeme → A → Type 0) → List Lexeme → List A → Type 0
Any W = Folded at_end [] W

-- W { W }
abbrev pub Several : {A : Type 0} → (List Lexeme → A → Type 0) → List Lexeme → List A → Type 0
Several W = Then W (λ x. Folded at_end (x ∷ []) W)

-- W { c W }
abbrev pub Listed : {A : Type 0} → Class → (List Lexeme → A → Type 0) → List Lexeme → List A → Type 0
Listed c W = Then W (λ x. Folded at_end (x ∷ []) (Sym c W))

-- W { c W }, joined from the left
abbrev pub Joined : {A : Type 0} → (A → A → A) → Class → (List Lexeme → A → Type 0) → List Lexeme → A → Type 0
Joined f c W = Then W (λ x. Folded f x (Sym c W))
