-- A reader meets a relation: laws about lists alone, one for each way to put relations together.
use Rattle.std.proofs.Common.{◌≡◌, ℕ, Bool, true, false, cond, IsTrue, List, [], ◌∷◌, ◌++◌, length, Result, Ok, Err, refl, sym, ap, subst, ◌∙◌, append_assoc, arith, inl, inr, ◌⊎◌}
use Rattle.std.specs.List.{list_all}
use Rattle.design_lexer.specs.Syntax.Reading.{◌>>=◌}
use Rattle.design_lexer.specs.Syntax.Classes.{Lexeme, starts, stops}
use Rattle.design_lexer.specs.Syntax.Fillers.{is_filler}
use Rattle.design_lexer.specs.Syntax.Parts.{Begins, Follows, Opens, Part, Reads, SameHead, Stuck, Took, done, none}
use Rattle.design_lexer.specs.Syntax.Reading.{token_at, then_at, instead, made_at, either_at}
use Rattle.design_lexer.specs.Syntax.Words.{One, Nothing, Then, Made, Either}

pub done_is : {B : Type 0} (x y : B) → done x ≡ done y → x ≡ y
done_is x y e = cc

pub bind_ok : {A B : Type 0} (r : Result A ℕ) (f : A → Result B ℕ) (y : B) → (r >>= f) ≡ Ok y → (x : A) × (r ≡ Ok x) × (f x ≡ Ok y)
bind_ok (Ok x) f y e = (x, refl, e)
bind_ok (Err d) f y e = absurd cc

pub bind_err : {A B : Type 0} (r : Result A ℕ) (f : A → Result B ℕ) (n : ℕ) → (r >>= f) ≡ Err n → (r ≡ Err n) ⊎ ((x : A) × (r ≡ Ok x) × (f x ≡ Err n))
bind_err (Ok x) f n e = inr (x, refl, e)
bind_err (Err d) f n e = inl cc

pub head_append : (a ts us : List Lexeme) → SameHead ts us → SameHead (a ++ ts) (a ++ us)
head_append [] ts us h = h
head_append (t ∷ a) ts us h = refl

all_append : (a b : List Lexeme) → IsTrue (list_all is_filler a) → IsTrue (list_all is_filler b) → IsTrue (list_all is_filler (a ++ b))
all_append [] b h k = k
all_append (t ∷ a) b h k = grind (arith, all_append a b)

pub then_reads : {A B : Type 0} (on off : Lexeme → Bool) (W : List Lexeme → A → Type 0) (V : A → List Lexeme → B → Type 0)
    (p : List Lexeme → Result (A × List Lexeme) ℕ) (q : A → List Lexeme → Result (B × List Lexeme) ℕ)
    → Reads on W p → ((x : A) → Part off (V x) (q x)) → Follows on off V → Reads off (Then W V) (then_at p q)
then_reads {A = A} {B = B} on off W V p q g h follows = record {
  took = λ ts y rest e.
      let s = bind_ok (p ts) (λ a. q a.0 a.1) (y, rest) e in
      let t1 = g.took ts s.0.0 s.0.1 s.1 in
      let t2 = (h s.0.0).reads.took s.0.1 y rest s.2 in
      record {
        front = t1.front ++ t2.front;
        parts = t1.parts ∙ ap (λ (z : List Lexeme). t1.front ++ z) t2.parts ∙ sym (append_assoc t1.front t2.front rest);
        written = record { front = t1.front; back = t2.front; value = s.0.0; parts = refl; first = t1.written; second = t2.written };
        same = λ more k.
            let one : p (t1.front ++ (t2.front ++ more)) ≡ Ok (s.0.0, t2.front ++ more) = t1.same (t2.front ++ more) (subst (λ z. SameHead z (t2.front ++ more)) (sym t2.parts) (head_append t2.front rest more k)) in
            ap (then_at p q) (append_assoc t1.front t2.front more) ∙ ap (λ (r : Result (A × List Lexeme) ℕ). r >>= λ a. q a.0 a.1) one ∙ t2.same more k;
      };
  stuck = λ ts n e.
      elim (bind_err (p ts) (λ a. q a.0 a.1) n e) [
        | inl f ↦
            let t1 = g.stuck ts n f in
            let o = t1.opens in
            let b = (h o.value).begin in
            record {
              front = t1.front;
              rest = t1.rest;
              parts = t1.parts;
              left = t1.left;
              opens = record {
                tail = o.tail ++ b.tail;
                value = b.value;
                filled = all_append o.tail b.tail o.filled b.filled;
                written = record { front = t1.front ++ o.tail; back = b.tail; value = o.value; parts = sym (append_assoc t1.front o.tail b.tail); first = o.written; second = b.written };
              };
              same = λ more k. ap (λ (r : Result (A × List Lexeme) ℕ). r >>= λ a. q a.0 a.1) (t1.same more k);
            }
        | inr s ↦
            let t1 = g.took ts s.0.0 s.0.1 s.1 in
            let t2 = (h s.0.0).reads.stuck s.0.1 n s.2 in
            let o = t2.opens in
            record {
              front = t1.front ++ t2.front;
              rest = t2.rest;
              parts = t1.parts ∙ ap (λ (z : List Lexeme). t1.front ++ z) t2.parts ∙ sym (append_assoc t1.front t2.front t2.rest);
              left = t2.left;
              opens = record {
                tail = o.tail;
                value = o.value;
                filled = o.filled;
                written = record { front = t1.front; back = t2.front ++ o.tail; value = s.0.0; parts = append_assoc t1.front t2.front o.tail; first = t1.written; second = o.written };
              };
              same = λ more k.
                  let one : p (t1.front ++ (t2.front ++ more)) ≡ Ok (s.0.0, t2.front ++ more) = t1.same (t2.front ++ more) (subst (λ z. SameHead z (t2.front ++ more)) (sym t2.parts) (head_append t2.front t2.rest more k)) in
                  ap (then_at p q) (append_assoc t1.front t2.front more) ∙ ap (λ (r : Result (A × List Lexeme) ℕ). r >>= λ a. q a.0 a.1) one ∙ t2.same more k;
            }
      ];
  again = λ ts y rest w k.
      let one : p (w.front ++ (w.back ++ rest)) ≡ Ok (w.value, w.back ++ rest) = g.again w.front w.value (w.back ++ rest) w.first (follows w.value w.back y rest w.second k) in
      ap (λ z. then_at p q (z ++ rest)) w.parts ∙ ap (then_at p q) (append_assoc w.front w.back rest) ∙ ap (λ (r : Result (A × List Lexeme) ℕ). r >>= λ a. q a.0 a.1) one ∙ (h w.value).reads.again w.back y rest w.second k;
}

pub then_part : {A B : Type 0} (on off : Lexeme → Bool) (W : List Lexeme → A → Type 0) (V : A → List Lexeme → B → Type 0)
    (p : List Lexeme → Result (A × List Lexeme) ℕ) (q : A → List Lexeme → Result (B × List Lexeme) ℕ)
    → Part on W p → ((x : A) → Part off (V x) (q x)) → Follows on off V → Part off (Then W V) (then_at p q)
then_part on off W V p q g h follows =
    let o = g.begin in
    let b = (h o.value).begin in
    record {
      reads = then_reads on off W V p q g.reads h follows;
      begin = record {
        tail = o.tail ++ b.tail;
        value = b.value;
        filled = all_append o.tail b.tail o.filled b.filled;
        written = record { front = o.tail; back = b.tail; value = o.value; parts = refl; first = o.written; second = b.written };
      };
    }

pub stops_none : (ts : List Lexeme) → IsTrue (stops none ts)
stops_none [] = refl
stops_none (t ∷ ts) = refl

pub cases_bool : (b : Bool) → (b ≡ true) ⊎ (b ≡ false)
cases_bool true = inl refl
cases_bool false = inr refl

pub guard_ok : {A : Type 0} (b : Bool) (x : A) (n : ℕ) (y : A) → cond b (done x) (Err n) ≡ Ok y → (b ≡ true) × (x ≡ y)
guard_ok true x n y e = (refl, cc)
guard_ok false x n y e = absurd cc

pub guard_err : {A : Type 0} (b : Bool) (x : A) (n m : ℕ) → cond b (done x) (Err n) ≡ Err m → (b ≡ false) × (m ≡ n)
guard_err true x n m e = absurd cc
guard_err false x n m e = (refl, cc)

token_took : (test : Lexeme → Bool) (ts : List Lexeme) (x : Lexeme) (rest : List Lexeme) → token_at test ts ≡ Ok (x, rest) → Took (One test) (token_at test) ts x rest
token_took test [] x rest e = absurd cc
token_took test (t ∷ ts) x rest e =
    let g = guard_ok (test t) (t, ts) (length (t ∷ ts)) (x, rest) e in
    subst (λ (z : Lexeme × List Lexeme). Took (One test) (token_at test) (t ∷ ts) z.0 z.1) g.1
    (record { front = t ∷ []; parts = refl; written = record { is = refl; passes = g.0 }; same = λ more k. rw g.0 refl })

token_stuck : (test : Lexeme → Bool) → Opens (One test) [] → (ts : List Lexeme) (n : ℕ) → token_at test ts ≡ Err n → Stuck (One test) (token_at test) ts n
token_stuck test o [] n e = record { front = []; rest = []; parts = refl; left = cc; opens = o; same = λ more k. absurd k }
token_stuck test o (t ∷ ts) n e =
    let g = guard_err (test t) (t, ts) (length (t ∷ ts)) n e in
    record { front = []; rest = t ∷ ts; parts = refl; left = g.1; opens = o; same = token_same test t ts g.0 }
  where
    token_same : (test : Lexeme → Bool) (t : Lexeme) (ts : List Lexeme) → test t ≡ false → (more : List Lexeme) → SameHead (t ∷ ts) more → token_at test more ≡ Err (length more)
    token_same test t ts f [] k = absurd k
    token_same test t ts f (u ∷ us) k = rw (← k, f) refl

token_again : (test : Lexeme → Bool) (ts : List Lexeme) (x : Lexeme) (rest : List Lexeme) → One test ts x → IsTrue (stops none rest) → token_at test (ts ++ rest) ≡ Ok (x, rest)
token_again test ts x rest w k = rw (w.is, w.passes) refl

pub token_part : (test : Lexeme → Bool) (t : Lexeme) → IsTrue (test t) → IsTrue (is_filler t) → Part none (One test) (token_at test)
token_part test t h k =
    let o : Opens (One test) [] = record { tail = t ∷ []; value = t; filled = rw k refl; written = record { is = refl; passes = h } } in
    record { reads = record { took = token_took test; stuck = token_stuck test o; again = token_again test }; begin = o }

-- ---- no token

pub nothing_part : {A : Type 0} (on : Lexeme → Bool) (v : A) → Part on (Nothing v) (λ ts. Ok (v, ts))
nothing_part {A = A} on v = record {
  reads = record {
    took = λ ts x rest e. subst (λ (z : A × List Lexeme). Took (Nothing v) (λ us. Ok (v, us)) ts z.0 z.1) (done_is (v, ts) (x, rest) e)
        (record { front = []; parts = refl; written = record { is = refl; same = refl }; same = λ more k. refl });
    stuck = λ ts n e. absurd cc;
    again = λ ts x rest w k. rw (w.is, w.same) refl;
  };
  begin = record { tail = []; value = v; filled = refl; written = record { is = refl; same = refl } };
}

-- ---- another value

pub made_ok : {A B : Type 0} (f : A → B) (r : Result (A × List Lexeme) ℕ) (y : B) (rest : List Lexeme) → (r >>= instead f) ≡ Ok (y, rest) → (x : A) × (r ≡ Ok (x, rest)) × (y ≡ f x)
made_ok {A = A} {B = B} f (Ok a) y rest e =
    let q = done_is (f a.0, a.1) (y, rest) e in
    (a.0, ap (λ (z : B × List Lexeme). done (a.0, z.1)) q, ap (λ (z : B × List Lexeme). z.0) (sym q))
made_ok f (Err n) y rest e = absurd cc

pub made_err : {A B : Type 0} (f : A → B) (r : Result (A × List Lexeme) ℕ) (n : ℕ) → (r >>= instead f) ≡ Err n → r ≡ Err n
made_err f (Ok a) n e = absurd cc
made_err f (Err m) n e = cc

pub made_reads : {A B : Type 0} (on : Lexeme → Bool) (f : A → B) (W : List Lexeme → A → Type 0) (p : List Lexeme → Result (A × List Lexeme) ℕ) → Reads on W p → Reads on (Made f W) (made_at f p)
made_reads {A = A} on f W p g = record {
  took = λ ts y rest e.
      let s = made_ok f (p ts) y rest e in
      let t = g.took ts s.0 rest s.1 in
      record {
        front = t.front;
        parts = t.parts;
        written = record { value = s.0; written = t.written; is = s.2 };
        same = λ more k. ap (λ (r : Result (A × List Lexeme) ℕ). r >>= instead f) (t.same more k) ∙ ap (λ z. done (z, more)) (sym s.2);
      };
  stuck = λ ts n e.
      let t = g.stuck ts n (made_err f (p ts) n e) in
      let o = t.opens in
      record {
        front = t.front;
        rest = t.rest;
        parts = t.parts;
        left = t.left;
        opens = record { tail = o.tail; value = f o.value; filled = o.filled; written = record { value = o.value; written = o.written; is = refl } };
        same = λ more k. ap (λ (r : Result (A × List Lexeme) ℕ). r >>= instead f) (t.same more k);
      };
  again = λ ts y rest w k. ap (λ (r : Result (A × List Lexeme) ℕ). r >>= instead f) (g.again ts w.value rest w.written k) ∙ ap (λ z. done (z, rest)) (sym w.is);
}

pub made_part : {A B : Type 0} (on : Lexeme → Bool) (f : A → B) (W : List Lexeme → A → Type 0) (p : List Lexeme → Result (A × List Lexeme) ℕ) → Part on W p → Part on (Made f W) (made_at f p)
made_part on f W p g =
    let o = g.begin in
    record { reads = made_reads on f W p g.reads; begin = record { tail = o.tail; value = f o.value; filled = o.filled; written = record { value = o.value; written = o.written; is = refl } } }

-- ---- one or the other

pub same_start : (test : Lexeme → Bool) (front ts us : List Lexeme) → SameHead ts us → starts test (front ++ us) ≡ starts test (front ++ ts)
same_start test [] [] us h = absurd h
same_start test [] (t ∷ ts) [] h = absurd h
same_start test [] (t ∷ ts) (u ∷ us) h = ap test (sym h)
same_start test (t ∷ front) ts us h = refl

pub starts_front : (test : Lexeme → Bool) (ts rest : List Lexeme) → IsTrue (starts test ts) → starts test (ts ++ rest) ≡ true
starts_front test [] rest h = absurd cc
starts_front test (t ∷ ts) rest h = h

pub either_reads : {A : Type 0} (on test : Lexeme → Bool) (W V : List Lexeme → A → Type 0) (p q : List Lexeme → Result (A × List Lexeme) ℕ)
    → Reads on W p → Reads on V q → Begins test W → ((ts : List Lexeme) (x : A) (rest : List Lexeme) → V ts x → IsTrue (stops on rest) → starts test (ts ++ rest) ≡ false)
    → Reads on (Either W V) (either_at test p q)
either_reads {A = A} on test W V p q g h begins apart = record {
  took = λ ts x rest e.
      elim (cases_bool (starts test ts)) [
        | inl s ↦
            let t = g.took ts x rest (rw s at e) in
            record {
              front = t.front;
              parts = t.parts;
              written = inl t.written;
              same = λ more k. rw (same_start test t.front rest more k ∙ ap (starts test) (sym t.parts) ∙ s) (t.same more k);
            }
        | inr s ↦
            let t = h.took ts x rest (rw s at e) in
            record {
              front = t.front;
              parts = t.parts;
              written = inr t.written;
              same = λ more k. rw (same_start test t.front rest more k ∙ ap (starts test) (sym t.parts) ∙ s) (t.same more k);
            }
      ];
  stuck = λ ts n e.
      elim (cases_bool (starts test ts)) [
        | inl s ↦
            let t = g.stuck ts n (rw s at e) in
            let o = t.opens in
            record {
              front = t.front;
              rest = t.rest;
              parts = t.parts;
              left = t.left;
              opens = record { tail = o.tail; value = o.value; filled = o.filled; written = inl o.written };
              same = λ more k. rw (same_start test t.front t.rest more k ∙ ap (starts test) (sym t.parts) ∙ s) (t.same more k);
            }
        | inr s ↦
            let t = h.stuck ts n (rw s at e) in
            let o = t.opens in
            record {
              front = t.front;
              rest = t.rest;
              parts = t.parts;
              left = t.left;
              opens = record { tail = o.tail; value = o.value; filled = o.filled; written = inr o.written };
              same = λ more k. rw (same_start test t.front t.rest more k ∙ ap (starts test) (sym t.parts) ∙ s) (t.same more k);
            }
      ];
  again = λ ts x rest w k.
      elim w [
        | inl a ↦ rw (starts_front test ts rest (begins.at ts x a)) (g.again ts x rest a k)
        | inr b ↦ rw (apart ts x rest b k) (h.again ts x rest b k)
      ];
}

pub either_part : {A : Type 0} (on test : Lexeme → Bool) (W V : List Lexeme → A → Type 0) (p q : List Lexeme → Result (A × List Lexeme) ℕ)
    → Part on W p → Reads on V q → Begins test W → ((ts : List Lexeme) (x : A) (rest : List Lexeme) → V ts x → IsTrue (stops on rest) → starts test (ts ++ rest) ≡ false)
    → Part on (Either W V) (either_at test p q)
either_part on test W V p q g h begins apart =
    let o = g.begin in
    record { reads = either_reads on test W V p q g.reads h begins apart; begin = record { tail = o.tail; value = o.value; filled = o.filled; written = inl o.written } }

-- ---- more may not follow

pub stops_fewer : (on off : Lexeme → Bool) → ((t : Lexeme) → IsTrue (on t) → IsTrue (off t)) → (ts : List Lexeme) → IsTrue (stops off ts) → IsTrue (stops on ts)
stops_fewer on off fewer [] k = refl
stops_fewer on off fewer (t ∷ ts) k = elim (cases_bool (on t)) [ inl h ↦ absurd (let e = fewer t h in cc) | inr h ↦ rw h refl ]

pub wider : {A : Type 0} (on off : Lexeme → Bool) (W : List Lexeme → A → Type 0) (p : List Lexeme → Result (A × List Lexeme) ℕ)
    → ((t : Lexeme) → IsTrue (on t) → IsTrue (off t)) → Part on W p → Part off W p
wider on off W p fewer g = record {
  reads = record { took = g.reads.took; stuck = g.reads.stuck; again = λ ts x rest w k. g.reads.again ts x rest w (stops_fewer on off fewer rest k) };
  begin = g.begin;
}
