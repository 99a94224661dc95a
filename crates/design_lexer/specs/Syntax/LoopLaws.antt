-- A loop that reads one part after the other, step by step.
use Rattle.std.proofs.Common.{◌≡◌, ℕ, ◌<◌, Bool, true, false, List, length, Result, Ok, refl, sym, ap, subst, ◌∙◌}
use Rattle.design_lexer.specs.Syntax.Reading.{◌>>=◌}
use Rattle.design_lexer.specs.Syntax.ClassLaws.{after_item}
use Rattle.design_lexer.specs.Syntax.Classes.{Lexeme, is, starts}
use Rattle.design_lexer.specs.Syntax.Gives.{FaultIs}
use Rattle.design_lexer.specs.Syntax.Parts.{Part}
use Rattle.design_lexer.specs.Syntax.Reading.{many_at, rest_of, sym_at}
use Rattle.design_lexer.specs.Syntax.RepeatLaws.{many_step, many_done, shorter}
use Rattle.design_lexer.specs.Syntax.Repeats.{Repeated}
use Rattle.design_lexer.specs.Syntax.Words.{Sym}
use Rattle.design_lexer.specs.declared.syntax.class.Class.{Class}
use Rattle.design_lexer.specs.declared.syntax.fault.ReadFault.TheVariants as fault
use Rattle.design_lexer.specs.declared.syntax.fault.ReadFault.{ReadFault}

pub goes_on : {A B : Type 0} (f : B → A → B) (on test : Lexeme → Bool) (W : List Lexeme → A → Type 0) (p : List Lexeme → Result (A × List Lexeme) ℕ) → Repeated on test W p
    → (b : Bool) (y z : B) (rest after : List Lexeme) (x : A) (total : Result (B × List Lexeme) ℕ) → b ≡ starts test rest → b ≡ true → p rest ≡ Ok (x, after) → z ≡ f y x
    → many_at f test p y rest ≡ total → many_at f test p z after ≡ total
goes_on {A = A} {B = B} f on test W p g b y z rest after x total s t e new so_far =
    ap (λ v. many_at f test p v after) new
    ∙ sym (ap (λ (r : Result (A × List Lexeme) ℕ). r >>= λ a. many_at f test p (f y a.0) a.1) e) ∙ sym (many_step f on test W p g y rest (sym s ∙ t)) ∙ so_far

pub ends : {A B : Type 0} (f : B → A → B) (on test : Lexeme → Bool) (W : List Lexeme → A → Type 0) (p : List Lexeme → Result (A × List Lexeme) ℕ) → Repeated on test W p
    → (d : ReadFault) (b : Bool) (y : B) (rest : List Lexeme) (total : Result (B × List Lexeme) ℕ) → b ≡ starts test rest → b ≡ true → FaultIs d (p rest)
    → many_at f test p y rest ≡ total → FaultIs d total
ends f on test W p g fault.Memory b y rest total s t e so_far = tt
ends {A = A} {B = B} f on test W p g (fault.Left n) b y rest total s t e so_far =
    sym so_far ∙ many_step f on test W p g y rest (sym s ∙ t) ∙ ap (λ (r : Result (A × List Lexeme) ℕ). r >>= λ a. many_at f test p (f y a.0) a.1) e

pub is_done : {A B : Type 0} (f : B → A → B) (test : Lexeme → Bool) (p : List Lexeme → Result (A × List Lexeme) ℕ) (b : Bool) (y : B) (rest : List Lexeme) (total : Result (B × List Lexeme) ℕ)
    → b ≡ starts test rest → b ≡ false → many_at f test p y rest ≡ total → total ≡ Ok (y, rest)
is_done f test p b y rest total s t so_far = sym so_far ∙ many_done f test p y rest (sym s ∙ t)

pub smaller : {A : Type 0} (on test : Lexeme → Bool) (W : List Lexeme → A → Type 0) (p : List Lexeme → Result (A × List Lexeme) ℕ) → Repeated on test W p
    → (b : Bool) (rest after : List Lexeme) (x : A) → b ≡ starts test rest → b ≡ true → p rest ≡ Ok (x, after) → length after < length rest
smaller on test W p g b rest after x s t e = shorter g rest x after (sym s ∙ t) e

-- ---- the same after a separator that is gone past

sep_read : {A : Type 0} (sep : Class) (p : List Lexeme → Result (A × List Lexeme) ℕ) (rest : List Lexeme) → starts (is sep) rest ≡ true → sym_at sep p rest ≡ p (rest_of rest)
sep_read sep p rest s = rw s refl

pub goes_on_after : {A B : Type 0} (f : B → A → B) (on : Lexeme → Bool) (sep : Class) (W : List Lexeme → A → Type 0) (p : List Lexeme → Result (A × List Lexeme) ℕ) → Part on W p
    → (b : Bool) (y z : B) (rest skipped after : List Lexeme) (x : A) (total : Result (B × List Lexeme) ℕ) → b ≡ starts (is sep) rest → b ≡ true → skipped ≡ rest_of rest → p skipped ≡ Ok (x, after) → z ≡ f y x
    → many_at f (is sep) (sym_at sep p) y rest ≡ total → many_at f (is sep) (sym_at sep p) z after ≡ total
goes_on_after f on sep W p g b y z rest skipped after x total s t k e new so_far =
    goes_on f on (is sep) (Sym sep W) (sym_at sep p) (after_item on sep W p g) b y z rest after x total s t (sep_read sep p rest (sym s ∙ t) ∙ ap p (sym k) ∙ e) new so_far

pub ends_after : {A B : Type 0} (f : B → A → B) (on : Lexeme → Bool) (sep : Class) (W : List Lexeme → A → Type 0) (p : List Lexeme → Result (A × List Lexeme) ℕ) → Part on W p
    → (d : ReadFault) (b : Bool) (y : B) (rest skipped : List Lexeme) (total : Result (B × List Lexeme) ℕ)
    → b ≡ starts (is sep) rest → b ≡ true → skipped ≡ rest_of rest → FaultIs d (p skipped)
    → many_at f (is sep) (sym_at sep p) y rest ≡ total → FaultIs d total
ends_after f on sep W p g d b y rest skipped total s t k e so_far =
    ends f on (is sep) (Sym sep W) (sym_at sep p) (after_item on sep W p g) d b y rest total s t
    (subst (FaultIs d) (sym (sep_read sep p rest (sym s ∙ t))) (subst (λ z. FaultIs d (p z)) k e)) so_far

pub smaller_after : {A : Type 0} (on : Lexeme → Bool) (sep : Class) (W : List Lexeme → A → Type 0) (p : List Lexeme → Result (A × List Lexeme) ℕ) → Part on W p
    → (b : Bool) (rest skipped after : List Lexeme) (x : A) → b ≡ starts (is sep) rest → b ≡ true → skipped ≡ rest_of rest → p skipped ≡ Ok (x, after) → length after < length rest
smaller_after on sep W p g b rest skipped after x s t k e =
    shorter (after_item on sep W p g) rest x after (sym s ∙ t) (sep_read sep p rest (sym s ∙ t) ∙ ap p (sym k) ∙ e)
