-- Reading from left to right. What is read is a value with the tokens after it; a fault is the number of tokens left where nothing goes on.
use Rattle.std.specs.Prelude.{ℕ, zero, suc, ◌+◌, ◌-◌, Bool, cond, Option, Some, None, List, [], ◌∷◌, length, take, Result, Ok, Err}
use Rattle.design_lexer.specs.Syntax.Classes.{Lexeme, is, starts}
use Rattle.design_lexer.specs.Syntax.Words.{at_end, place_or, is_sign}
use Rattle.design_lexer.specs.declared.syntax.class.Class.TheVariants as class
use Rattle.design_lexer.specs.declared.syntax.class.Class.{Class}

-- a way of reading a value
abbrev pub Reader : Type 0 → Type 0
Reader A = List Lexeme → Result (A × List Lexeme) ℕ

infixl 10 ◌>>=◌
abbrev pub ◌>>=◌ : {A B : Type 0} → Result A ℕ → (A → Result B ℕ) → Result B ℕ
(Ok x) >>= f = f x
(Err e) >>= f = Err e

abbrev pub rest_of : List Lexeme → List Lexeme
rest_of [] = []
rest_of (t ∷ ts) = ts

abbrev pub next_at : List Lexeme → Result (Lexeme × List Lexeme) ℕ
next_at [] = Err 0
next_at (t ∷ ts) = Ok (t, ts)

-- one token that passes the test
abbrev pub token_at : (Lexeme → Bool) → List Lexeme → Result (Lexeme × List Lexeme) ℕ
token_at test ts = cond (starts test ts) (next_at ts) (Err (length ts))

-- the tokens after the next one, which is of the class
abbrev pub skip_at : Class → List Lexeme → Result (List Lexeme) ℕ
skip_at c ts = cond (starts (is c) ts) (Ok (rest_of ts)) (Err (length ts))

abbrev pub give : {A : Type 0} → A → List Lexeme → Result (A × List Lexeme) ℕ
give x ts = Ok (x, ts)

abbrev pub then_at : {A B : Type 0} → (List Lexeme → Result (A × List Lexeme) ℕ) → (A → List Lexeme → Result (B × List Lexeme) ℕ) → List Lexeme → Result (B × List Lexeme) ℕ
then_at p q ts = p ts >>= λ a. q a.0 a.1

abbrev pub instead : {A B : Type 0} → (A → B) → A × List Lexeme → Result (B × List Lexeme) ℕ
instead f a = Ok (f a.0, a.1)

abbrev pub made_at : {A B : Type 0} → (A → B) → (List Lexeme → Result (A × List Lexeme) ℕ) → List Lexeme → Result (B × List Lexeme) ℕ
made_at f p ts = p ts >>= instead f

-- by the next token
abbrev pub either_at : {A : Type 0} → (Lexeme → Bool) → (List Lexeme → Result (A × List Lexeme) ℕ) → (List Lexeme → Result (A × List Lexeme) ℕ) → List Lexeme → Result (A × List Lexeme) ℕ
either_at test p q ts = cond (starts test ts) (p ts) (q ts)

-- as long as the next token passes the test, at most so often
unfoldable pub some_at : {A B : Type 0} → (B → A → B) → (Lexeme → Bool) → (List Lexeme → Result (A × List Lexeme) ℕ) → ℕ → B → List Lexeme → Result (B × List Lexeme) ℕ
some_at f test p zero y ts = Ok (y, ts)
some_at f test p (suc n) y ts = cond (starts test ts) (p ts >>= λ a. some_at f test p n (f y a.0) a.1) (Ok (y, ts))

-- as long as the next token passes the test
abbrev pub many_at : {A B : Type 0} → (B → A → B) → (Lexeme → Bool) → (List Lexeme → Result (A × List Lexeme) ℕ) → B → List Lexeme → Result (B × List Lexeme) ℕ
many_at f test p y ts = some_at f test p (length ts) y ts

abbrev pub placed_at : {A : Type 0} → (List Lexeme → Result (A × List Lexeme) ℕ) → List Lexeme → Result ((A × ℕ) × List Lexeme) ℕ
placed_at p ts = made_at (λ x. (x, place_or 0 ts)) p ts

-- how many tokens are left from the first sign past the limit on, or 0 where there is none before the next `;`
unfoldable pub over : ℕ → List Lexeme → ℕ
over limit [] = 0
over limit (t ∷ ts) = cond (is_sign t) (past limit (length (t ∷ ts)) (λ n. over n ts)) (cond (is class.Semicolon t) 0 (over limit ts))
  where
    past : ℕ → ℕ → (ℕ → ℕ) → ℕ
    past zero here next = here
    past (suc n) here next = next n

-- with so many tokens more at the end, which are not read
abbrev pub cut_at : {A : Type 0} → ℕ → Result A ℕ → Result A ℕ
cut_at n (Ok x) = Err n
cut_at n (Err m) = Err (m + n)

abbrev pub few_by : {A : Type 0} → ℕ → (List Lexeme → Result (A × List Lexeme) ℕ) → List Lexeme → Result (A × List Lexeme) ℕ
few_by zero p ts = p ts
few_by (suc n) p ts = cut_at (suc n) (p (take (length ts - suc n) ts))

-- no sign past the limit is read
abbrev pub few_at : {A : Type 0} → ℕ → (List Lexeme → Result (A × List Lexeme) ℕ) → List Lexeme → Result (A × List Lexeme) ℕ
few_at limit p ts = few_by (over limit ts) p ts

-- ---- put together from these

abbrev pub sym_at : {B : Type 0} → Class → (List Lexeme → Result (B × List Lexeme) ℕ) → List Lexeme → Result (B × List Lexeme) ℕ
sym_at c q ts = skip_at c ts >>= q

abbrev pub mark_at : Class → List Lexeme → Result (ℕ × List Lexeme) ℕ
mark_at c = made_at (λ t. t.at) (token_at (is c))

abbrev pub else_at : {A : Type 0} → A → (Lexeme → Bool) → (List Lexeme → Result (A × List Lexeme) ℕ) → List Lexeme → Result (A × List Lexeme) ℕ
else_at x test p = either_at test p (give x)

abbrev pub maybe_at : {A : Type 0} → (Lexeme → Bool) → (List Lexeme → Result (A × List Lexeme) ℕ) → List Lexeme → Result (Option A × List Lexeme) ℕ
maybe_at test p = else_at None test (made_at (λ x. Some x) p)

abbrev pub any_at : {A : Type 0} → (Lexeme → Bool) → (List Lexeme → Result (A × List Lexeme) ℕ) → List Lexeme → Result (List A × List Lexeme) ℕ
any_at test p = many_at at_end test p []

abbrev pub several_at : {A : Type 0} → (Lexeme → Bool) → (List Lexeme → Result (A × List Lexeme) ℕ) → List Lexeme → Result (List A × List Lexeme) ℕ
several_at test p = then_at p (λ x. many_at at_end test p (x ∷ []))

abbrev pub listed_at : {A : Type 0} → Class → (List Lexeme → Result (A × List Lexeme) ℕ) → List Lexeme → Result (List A × List Lexeme) ℕ
listed_at c p = then_at p (λ x. many_at at_end (is c) (sym_at c p) (x ∷ []))

abbrev pub joined_at : {A : Type 0} → (A → A → A) → Class → (List Lexeme → Result (A × List Lexeme) ℕ) → List Lexeme → Result (A × List Lexeme) ℕ
joined_at f c p = then_at p (λ x. many_at f (is c) (sym_at c p) x)

-- all of the tokens
abbrev pub whole : {A : Type 0} → Result (A × List Lexeme) ℕ → Result A ℕ
whole (Ok (x, [])) = Ok x
whole (Ok (x, t ∷ ts)) = Err (length (t ∷ ts))
whole (Err n) = Err n
