-- The place of a part's first token.
use Rattle.std.proofs.Common.{◌≡◌, ℕ, Bool, true, false, IsTrue, List, [], ◌∷◌, ◌++◌, Result, Ok, refl, sym, ap, subst, ◌∙◌}
use Rattle.design_lexer.specs.Syntax.Reading.{◌>>=◌}
use Rattle.design_lexer.specs.Syntax.Classes.{Lexeme, starts}
use Rattle.design_lexer.specs.Syntax.PartLaws.{made_ok, made_err}
use Rattle.design_lexer.specs.Syntax.Parts.{Opens, Part, Begins, done}
use Rattle.design_lexer.specs.Syntax.Reading.{instead, placed_at}
use Rattle.design_lexer.specs.Syntax.Words.{Placed, place_or}

-- its place is that of what it begins
front_place : (test : Lexeme → Bool) (front rest : List Lexeme) → IsTrue (starts test front) → place_or 0 (front ++ rest) ≡ place_or 0 front
front_place test [] rest h = absurd (let z : false ≡ true = h in cc)
front_place test (t ∷ front) rest h = refl

pub placed_part : {A : Type 0} (on test : Lexeme → Bool) (W : List Lexeme → A → Type 0) (p : List Lexeme → Result (A × List Lexeme) ℕ) → Begins test W → Part on W p → Part on (Placed W) (placed_at p)
placed_part {A = A} on test W p b g = record {
  reads = record {
    took = λ ts y rest e.
        let s = made_ok (λ x. (x, place_or 0 ts)) (p ts) y rest e in
        let t = g.reads.took ts s.0 rest s.1 in
        let at : place_or 0 ts ≡ place_or 0 t.front = ap (place_or 0) t.parts ∙ front_place test t.front rest (b.at t.front s.0 t.written) in
        record {
          front = t.front;
          parts = t.parts;
          written = subst (λ z. Placed W t.front z) (sym s.2) (record { written = t.written; place = at });
          same = λ more k. read_as (t.front ++ more) s.0 more (t.same more k) ∙ ap (λ z. done (z, more)) (ap (λ z. (s.0, z)) (front_place test t.front more (b.at t.front s.0 t.written) ∙ sym at) ∙ sym s.2);
        };
    stuck = λ ts n e.
        let t = g.reads.stuck ts n (made_err (λ x. (x, place_or 0 ts)) (p ts) n e) in
        record {
          front = t.front;
          rest = t.rest;
          parts = t.parts;
          left = t.left;
          opens = placed_opens t.front t.opens;
          same = λ more k. ap (λ (r : Result (A × List Lexeme) ℕ). r >>= instead (λ x. (x, place_or 0 (t.front ++ more)))) (t.same more k);
        };
    again = λ ts y rest w k.
        read_as (ts ++ rest) y.0 rest (g.reads.again ts y.0 rest w.written k)
        ∙ ap (λ z. done ((y.0, z), rest)) (front_place test ts rest (b.at ts y.0 w.written) ∙ sym w.place);
  };
  begin = placed_opens [] g.begin;
}
  where
    read_as : (ts : List Lexeme) (x : A) (rest : List Lexeme) → p ts ≡ Ok (x, rest) → placed_at p ts ≡ Ok ((x, place_or 0 ts), rest)
    read_as ts x rest e = ap (λ (r : Result (A × List Lexeme) ℕ). r >>= instead (λ x. (x, place_or 0 ts))) e

    placed_opens : (front : List Lexeme) → Opens W front → Opens (Placed W) front
    placed_opens front o = record { tail = o.tail; value = (o.value, place_or 0 (front ++ o.tail)); filled = o.filled; written = record { written = o.written; place = refl } }
