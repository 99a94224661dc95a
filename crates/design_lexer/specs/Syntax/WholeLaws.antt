-- All of the tokens.
use Rattle.std.proofs.Common.{◌≡◌, ℕ, Bool, List, [], ◌∷◌, ◌++◌, length, Result, Ok, Err, refl, sym, ap, subst, ◌∙◌, append_assoc, inl, inr, ◌⊎◌}
use Rattle.std.proofs.lemmas.List.{append-nil}
use Rattle.design_lexer.specs.Syntax.Classes.{Lexeme}
use Rattle.design_lexer.specs.Syntax.Faults.{Begun, Dead}
use Rattle.design_lexer.specs.Syntax.PartLaws.{done_is}
use Rattle.design_lexer.specs.Syntax.Parts.{SameHead, Part, done}
use Rattle.design_lexer.specs.Syntax.Reading.{whole}
use Rattle.design_lexer.specs.Syntax.RepeatLaws.{none_errs}
use Rattle.design_lexer.specs.Syntax.Whole.{Stops}

whole_ok : {A : Type 0} (r : Result (A × List Lexeme) ℕ) (x : A) → whole r ≡ Ok x → r ≡ Ok (x, [])
whole_ok (Ok (y, [])) x e = ap (λ z. done (z, [])) (done_is y x e)
whole_ok (Ok (y, t ∷ ts)) x e = absurd cc
whole_ok (Err n) x e = absurd cc

pub whole_written : {A : Type 0} (on : Lexeme → Bool) (W : List Lexeme → A → Type 0) (p : List Lexeme → Result (A × List Lexeme) ℕ) → Part on W p → (ts : List Lexeme) (x : A) → whole (p ts) ≡ Ok x → W ts x
whole_written on W p g ts x e =
    let t = g.reads.took ts x [] (whole_ok (p ts) x e) in
    subst (λ z. W z x) (sym (t.parts ∙ append-nil t.front)) t.written

pub whole_again : {A : Type 0} (on : Lexeme → Bool) (W : List Lexeme → A → Type 0) (p : List Lexeme → Result (A × List Lexeme) ℕ) → Part on W p → (ts : List Lexeme) (x : A) → W ts x → whole (p ts) ≡ Ok x
whole_again on W p g ts x w = ap (λ z. whole (p z)) (sym (append-nil ts)) ∙ ap whole (g.reads.again ts x [] w refl)

whole_err : {A : Type 0} (r : Result (A × List Lexeme) ℕ) (n : ℕ) → whole r ≡ Err n → (r ≡ Err n) ⊎ ((x : A) × (t : Lexeme) × (ts : List Lexeme) × (r ≡ Ok (x, t ∷ ts)) × (n ≡ length (t ∷ ts)))
whole_err (Ok (y, [])) n e = absurd cc
whole_err (Ok (y, t ∷ ts)) n e = inr (y, t, ts, refl, cc)
whole_err (Err m) n e = inl cc

pub whole_fails : {A : Type 0} (on : Lexeme → Bool) (W : List Lexeme → A → Type 0) (p : List Lexeme → Result (A × List Lexeme) ℕ) → Part on W p → (ts : List Lexeme) (n : ℕ) → whole (p ts) ≡ Err n → Stops W ts n
whole_fails {A = A} on W p g ts n e =
    elim (whole_err (p ts) n e) [
      | inl f ↦
          let t = g.reads.stuck ts n f in
          record {
            front = t.front;
            rest = t.rest;
            parts = t.parts;
            left = t.left;
            opens = t.opens;
            dead = at_err t.front t.rest t.same;
            never = never;
          }
      | inr s ↦
          let t = g.reads.took ts s.0 (s.1 ∷ s.2) s.3 in
          record {
            front = t.front;
            rest = s.1 ∷ s.2;
            parts = t.parts;
            left = s.4;
            opens = record { tail = []; value = s.0; filled = refl; written = subst (λ z. W z s.0) (sym (append-nil t.front)) t.written };
            dead = at_ok t.front s.1 s.0 t.same;
            never = never;
          }
    ]
  where
    never : (x : A) → W ts x → ⊥
    never x w = let k = whole_again on W p g ts x w in let z = sym k ∙ e in none_errs x z

    regroup : (front : List Lexeme) (t : Lexeme) (tail : List Lexeme) → (front ++ t ∷ []) ++ tail ≡ front ++ (t ∷ tail)
    regroup front t tail = append_assoc front (t ∷ []) tail

    at_err : (front rest : List Lexeme) → ((more : List Lexeme) → SameHead rest more → p (front ++ more) ≡ Err (length more)) → Dead W front rest
    at_err front [] same = tt
    at_err front (t ∷ ts) same = λ b.
        let k = whole_again on W p g ((front ++ t ∷ []) ++ b.tail) b.value b.written in
        let z = sym k ∙ ap (λ u. whole (p u)) (regroup front t b.tail) ∙ ap whole (same (t ∷ b.tail) refl) in
        none_errs b.value z

    at_ok : (front : List Lexeme) (t : Lexeme) (x : A) → ((more : List Lexeme) → SameHead (t ∷ []) more → p (front ++ more) ≡ Ok (x, more)) → Begun W (front ++ t ∷ []) → ⊥
    at_ok front t x same b =
        let k = whole_again on W p g ((front ++ t ∷ []) ++ b.tail) b.value b.written in
        let z = sym k ∙ ap (λ u. whole (p u)) (regroup front t b.tail) ∙ ap whole (same (t ∷ b.tail) refl) in
        none_errs b.value z
