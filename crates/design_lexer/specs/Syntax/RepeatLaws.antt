-- Any number of parts, one after the other.
use Rattle.std.proofs.Common.{◌≡◌, ℕ, zero, suc, ◌≤◌, ◌<◌, Bool, true, false, ◌||◌, IsTrue, List, [], ◌∷◌, ◌++◌, length, Result, Ok, Err, refl, sym, ap, subst, ◌∙◌, append_assoc, arith, inl, inr}
use Rattle.std.proofs.lemmas.List.{append-nil, length-append}
use Rattle.design_lexer.specs.Syntax.Reading.{◌>>=◌}
use Rattle.design_lexer.specs.Syntax.Classes.{Lexeme, starts, stops}
use Rattle.design_lexer.specs.Syntax.PartLaws.{done_is, bind_ok, bind_err, head_append, cases_bool, same_start, starts_front}
use Rattle.design_lexer.specs.Syntax.Parts.{SameHead, Opens, Took, Stuck, Reads, Part, Begins, done}
use Rattle.design_lexer.specs.Syntax.Reading.{some_at, many_at}
use Rattle.design_lexer.specs.Syntax.Repeats.{Repeated}
use Rattle.design_lexer.specs.Syntax.Words.{Many, fold, Folded}

pub repeated : {A : Type 0} (on test : Lexeme → Bool) (W : List Lexeme → A → Type 0) (p : List Lexeme → Result (A × List Lexeme) ℕ) → Reads on W p → Begins test W → Repeated on test W p
repeated on test W p g begins = record { took = λ ts x rest s. g.took ts x rest; stuck = λ ts n s. g.stuck ts n; again = g.again; begins = begins }

pub shorter : {A : Type 0} {on test : Lexeme → Bool} {W : List Lexeme → A → Type 0} {p : List Lexeme → Result (A × List Lexeme) ℕ} (g : Repeated on test W p)
    → (ts : List Lexeme) (x : A) (rest : List Lexeme) → starts test ts ≡ true → p ts ≡ Ok (x, rest) → length rest < length ts
shorter {test = test} g ts x rest s e =
    let t = g.took ts x rest s e in
    rw t.parts (longer test t.front rest (g.begins.at t.front x t.written))
  where
    longer : (test : Lexeme → Bool) (front rest : List Lexeme) → IsTrue (starts test front) → length rest < length (front ++ rest)
    longer test [] rest h = absurd cc
    longer test (t ∷ front) rest h = omega (arith, length-append front rest)

bind_same : {A B : Type 0} (r : Result A ℕ) (f g : A → Result B ℕ) → ((x : A) → r ≡ Ok x → f x ≡ g x) → (r >>= f) ≡ (r >>= g)
bind_same (Ok x) f g h = h x refl
bind_same (Err e) f g h = refl

-- enough is enough
enough : {A B : Type 0} (f : B → A → B) (on test : Lexeme → Bool) (W : List Lexeme → A → Type 0) (p : List Lexeme → Result (A × List Lexeme) ℕ) → Repeated on test W p
    → (n m : ℕ) (y : B) (ts : List Lexeme) → length ts ≤ n → length ts ≤ m → some_at f test p n y ts ≡ some_at f test p m y ts
unfolding some_at
enough f on test W p g zero zero y ts h k = refl
enough f on test W p g zero (suc m) y [] h k = refl
enough f on test W p g zero (suc m) y (t ∷ ts) h k = absurd (omega arith)
enough f on test W p g (suc n) zero y [] h k = refl
enough f on test W p g (suc n) zero y (t ∷ ts) h k = absurd (omega arith)
enough f on test W p g (suc n) (suc m) y ts h k =
    elim (cases_bool (starts test ts)) [
      | inl s ↦ rw s (bind_same (p ts) (λ a. some_at f test p n (f y a.0) a.1) (λ a. some_at f test p m (f y a.0) a.1)
          (λ a e. let l = shorter g ts a.0 a.1 s e in enough f on test W p g n m (f y a.0) a.1 (omega arith) (omega arith)))
      | inr s ↦ rw s refl
    ]

pub many_step : {A B : Type 0} (f : B → A → B) (on test : Lexeme → Bool) (W : List Lexeme → A → Type 0) (p : List Lexeme → Result (A × List Lexeme) ℕ) → Repeated on test W p
    → (y : B) (ts : List Lexeme) → starts test ts ≡ true → many_at f test p y ts ≡ (p ts >>= λ a. many_at f test p (f y a.0) a.1)
unfolding some_at
many_step f on test W p g y [] s = absurd cc
many_step f on test W p g y (t ∷ ts) s =
    rw s (bind_same (p (t ∷ ts)) (λ a. some_at f test p (length ts) (f y a.0) a.1) (λ a. many_at f test p (f y a.0) a.1)
    (λ a e. let l = shorter g (t ∷ ts) a.0 a.1 s e in enough f on test W p g (length ts) (length a.1) (f y a.0) a.1 (omega arith) (omega arith)))

pub many_done : {A B : Type 0} (f : B → A → B) (test : Lexeme → Bool) (p : List Lexeme → Result (A × List Lexeme) ℕ)
    (y : B) (ts : List Lexeme) → starts test ts ≡ false → many_at f test p y ts ≡ Ok (y, ts)
unfolding some_at
many_done f test p y [] s = refl
many_done f test p y (t ∷ ts) s = rw s refl

folded_more : {A B : Type 0} (f : B → A → B) (y : B) (W : List Lexeme → A → Type 0) (a b : List Lexeme) (x : A) (z : B) → W a x → Folded f (f y x) W b z → Folded f y W (a ++ b) z
folded_more f y W a b x z w v = record { value = x ∷ v.value; written = (a, b, refl, w, v.written); is = v.is }

pub same_starts : (test : Lexeme → Bool) (ts us : List Lexeme) → SameHead ts us → starts test us ≡ starts test ts
same_starts test ts us h = same_start test [] ts us h

-- one more, and then as many as before
many_same : {A B : Type 0} (f : B → A → B) (on test : Lexeme → Bool) (W : List Lexeme → A → Type 0) (p : List Lexeme → Result (A × List Lexeme) ℕ) → Repeated on test W p
    → (y : B) (front back more : List Lexeme) (x : A) (out : Result (B × List Lexeme) ℕ) → W front x → p (front ++ (back ++ more)) ≡ Ok (x, back ++ more)
    → many_at f test p (f y x) (back ++ more) ≡ out → many_at f test p y ((front ++ back) ++ more) ≡ out
many_same {A = A} {B = B} f on test W p g y front back more x out w e k =
    ap (many_at f test p y) (append_assoc front back more)
    ∙ many_step f on test W p g y (front ++ (back ++ more)) (starts_front test front (back ++ more) (g.begins.at front x w))
    ∙ ap (λ (r : Result (A × List Lexeme) ℕ). r >>= λ a. many_at f test p (f y a.0) a.1) e ∙ k

none_took : {A B : Type 0} (f : B → A → B) (on test : Lexeme → Bool) (W : List Lexeme → A → Type 0) (p : List Lexeme → Result (A × List Lexeme) ℕ) → Repeated on test W p
    → (y z : B) (ts rest : List Lexeme) → starts test ts ≡ false → many_at f test p y ts ≡ Ok (z, rest) → Took (Folded f y W) (many_at f test p y) ts z rest
none_took {A = A} {B = B} f on test W p g y z ts rest s e =
    subst (λ (v : B × List Lexeme). Took (Folded f y W) (many_at f test p y) ts v.0 v.1) (done_is (y, ts) (z, rest) (sym (many_done f test p y ts s) ∙ e))
    (record { front = []; parts = refl; written = record { value = []; written = refl; is = refl }; same = λ more k. many_done f test p y more (same_starts test ts more k ∙ s) })

more_took : {A B : Type 0} (f : B → A → B) (on test : Lexeme → Bool) (W : List Lexeme → A → Type 0) (p : List Lexeme → Result (A × List Lexeme) ℕ) → Repeated on test W p
    → (y z : B) (ts rest : List Lexeme) → starts test ts ≡ true → many_at f test p y ts ≡ Ok (z, rest)
    → ((a : A × List Lexeme) → length a.1 < length ts → many_at f test p (f y a.0) a.1 ≡ Ok (z, rest) → Took (Folded f (f y a.0) W) (many_at f test p (f y a.0)) a.1 z rest)
    → Took (Folded f y W) (many_at f test p y) ts z rest
more_took {A = A} {B = B} f on test W p g y z ts rest s e before =
    let a = bind_ok (p ts) (λ a. many_at f test p (f y a.0) a.1) (z, rest) (sym (many_step f on test W p g y ts s) ∙ e) in
    let t1 = g.took ts a.0.0 a.0.1 s a.1 in
    let t2 = before a.0 (shorter g ts a.0.0 a.0.1 s a.1) a.2 in
    record {
      front = t1.front ++ t2.front;
      parts = t1.parts ∙ ap (λ (z : List Lexeme). t1.front ++ z) t2.parts ∙ sym (append_assoc t1.front t2.front rest);
      written = folded_more f y W t1.front t2.front a.0.0 z t1.written t2.written;
      same = λ more k. many_same f on test W p g y t1.front t2.front more a.0.0 (Ok (z, more)) t1.written
          (t1.same (t2.front ++ more) (subst (λ z. SameHead z (t2.front ++ more)) (sym t2.parts) (head_append t2.front rest more k))) (t2.same more k);
    }

pub none_errs : {A : Type 0} (x : A) {n : ℕ} → done x ≡ Err n → ⊥
none_errs x e = cc

stops_left : (on test : Lexeme → Bool) (rest : List Lexeme) → IsTrue (stops (λ t. test t || on t) rest) → starts test rest ≡ false
stops_left on test [] k = refl
stops_left on test (t ∷ rest) k = elim (cases_bool (test t)) [ inl h ↦ absurd (let e : false ≡ true = rw h at k in cc) | inr h ↦ h ]

pub stops_right : (on test : Lexeme → Bool) (rest : List Lexeme) → IsTrue (stops (λ t. test t || on t) rest) → IsTrue (stops on rest)
stops_right on test [] k = refl
stops_right on test (t ∷ rest) k = elim (cases_bool (test t)) [ inl h ↦ absurd (let e : false ≡ true = rw h at k in cc) | inr h ↦ rw h at k ]

pub head_stops : (on test : Lexeme → Bool) → ((t : Lexeme) → IsTrue (test t) → on t ≡ false) → (a b rest : List Lexeme) → IsTrue (starts test a) → IsTrue (stops on ((a ++ b) ++ rest))
head_stops on test apart [] b rest h = absurd cc
head_stops on test apart (t ∷ a) b rest h = rw (apart t h) refl

many_took : {A B : Type 0} (f : B → A → B) (on test : Lexeme → Bool) (W : List Lexeme → A → Type 0) (p : List Lexeme → Result (A × List Lexeme) ℕ) → Repeated on test W p
    → (n : ℕ) (ts : List Lexeme) → length ts ≤ n → (y z : B) (rest : List Lexeme) → many_at f test p y ts ≡ Ok (z, rest) → Took (Folded f y W) (many_at f test p y) ts z rest
many_took f on test W p g zero [] l y z rest e = none_took f on test W p g y z [] rest refl e
many_took f on test W p g zero (t ∷ ts) l y z rest e = absurd (omega arith)
many_took f on test W p g (suc n) ts l y z rest e =
    elim (cases_bool (starts test ts)) [
      | inl s ↦ more_took f on test W p g y z ts rest s e (λ a k. many_took f on test W p g n a.1 (omega arith) (f y a.0) z rest)
      | inr s ↦ none_took f on test W p g y z ts rest s e
    ]

-- what the item's completion leaves is complete
item_opens : {A B : Type 0} (f : B → A → B) (y : B) (W : List Lexeme → A → Type 0) (front : List Lexeme) → Opens W front → Opens (Folded f y W) front
item_opens f y W front o = record {
  tail = o.tail;
  value = f y o.value;
  filled = o.filled;
  written = record { value = o.value ∷ []; written = (front ++ o.tail, [], sym (append-nil (front ++ o.tail)), o.written, refl); is = refl };
}

folded_opens : {A B : Type 0} (f : B → A → B) (y : B) (W : List Lexeme → A → Type 0) (front back : List Lexeme) (x : A) → W front x → Opens (Folded f (f y x) W) back → Opens (Folded f y W) (front ++ back)
folded_opens f y W front back x w o = record {
  tail = o.tail;
  value = o.value;
  filled = o.filled;
  written = subst (λ ts. Folded f y W ts o.value) (sym (append_assoc front back o.tail)) (folded_more f y W front (back ++ o.tail) x o.value w o.written);
}

more_stuck : {A B : Type 0} (f : B → A → B) (on test : Lexeme → Bool) (W : List Lexeme → A → Type 0) (p : List Lexeme → Result (A × List Lexeme) ℕ) → Repeated on test W p
    → (y : B) (ts : List Lexeme) (n : ℕ) → starts test ts ≡ true → many_at f test p y ts ≡ Err n
    → ((a : A × List Lexeme) → length a.1 < length ts → many_at f test p (f y a.0) a.1 ≡ Err n → Stuck (Folded f (f y a.0) W) (many_at f test p (f y a.0)) a.1 n)
    → Stuck (Folded f y W) (many_at f test p y) ts n
more_stuck {A = A} {B = B} f on test W p g y ts n s e before =
    elim (bind_err (p ts) (λ a. many_at f test p (f y a.0) a.1) n (sym (many_step f on test W p g y ts s) ∙ e)) [
      | inl d ↦
          let t1 = g.stuck ts n s d in
          record {
            front = t1.front;
            rest = t1.rest;
            parts = t1.parts;
            left = t1.left;
            opens = item_opens f y W t1.front t1.opens;
            same = λ more k.
                many_step f on test W p g y (t1.front ++ more) (same_start test t1.front t1.rest more k ∙ ap (starts test) (sym t1.parts) ∙ s)
                ∙ ap (λ (r : Result (A × List Lexeme) ℕ). r >>= λ a. many_at f test p (f y a.0) a.1) (t1.same more k);
          }
      | inr a ↦
          let t1 = g.took ts a.0.0 a.0.1 s a.1 in
          let t2 = before a.0 (shorter g ts a.0.0 a.0.1 s a.1) a.2 in
          record {
            front = t1.front ++ t2.front;
            rest = t2.rest;
            parts = t1.parts ∙ ap (λ (z : List Lexeme). t1.front ++ z) t2.parts ∙ sym (append_assoc t1.front t2.front t2.rest);
            left = t2.left;
            opens = folded_opens f y W t1.front t2.front a.0.0 t1.written t2.opens;
            same = λ more k. many_same f on test W p g y t1.front t2.front more a.0.0 (Err (length more)) t1.written
                (t1.same (t2.front ++ more) (subst (λ z. SameHead z (t2.front ++ more)) (sym t2.parts) (head_append t2.front t2.rest more k))) (t2.same more k);
          }
    ]

many_stuck : {A B : Type 0} (f : B → A → B) (on test : Lexeme → Bool) (W : List Lexeme → A → Type 0) (p : List Lexeme → Result (A × List Lexeme) ℕ) → Repeated on test W p
    → (n : ℕ) (ts : List Lexeme) → length ts ≤ n → (y : B) (m : ℕ) → many_at f test p y ts ≡ Err m → Stuck (Folded f y W) (many_at f test p y) ts m
many_stuck f on test W p g zero [] l y m e = absurd (none_errs _ (sym (many_done f test p y [] refl) ∙ e))
many_stuck f on test W p g zero (t ∷ ts) l y m e = absurd (omega arith)
many_stuck f on test W p g (suc n) ts l y m e =
    elim (cases_bool (starts test ts)) [
      | inl s ↦ more_stuck f on test W p g y ts m s e (λ a k. many_stuck f on test W p g n a.1 (omega arith) (f y a.0) m)
      | inr s ↦ absurd (none_errs _ (sym (many_done f test p y ts s) ∙ e))
    ]

many_again : {A B : Type 0} (f : B → A → B) (on test : Lexeme → Bool) (W : List Lexeme → A → Type 0) (p : List Lexeme → Result (A × List Lexeme) ℕ) → Repeated on test W p
    → ((t : Lexeme) → IsTrue (test t) → on t ≡ false)
    → (xs : List A) (y : B) (ts rest : List Lexeme) → Many W ts xs → IsTrue (stops (λ t. test t || on t) rest) → many_at f test p y (ts ++ rest) ≡ Ok (fold f y xs, rest)
many_again f on test W p g apart [] y ts rest w k = ap (λ z. many_at f test p y (z ++ rest)) w ∙ many_done f test p y rest (stops_left on test rest k)
many_again {A = A} {B = B} f on test W p g apart (x ∷ xs) y ts rest w k =
    ap (λ z. many_at f test p y (z ++ rest)) w.2 ∙ many_same f on test W p g y w.0 w.1 rest x (Ok (fold f y (x ∷ xs), rest)) w.3
    (g.again w.0 x (w.1 ++ rest) w.3 (stops_next xs w.1 w.4)) (many_again f on test W p g apart xs (f y x) w.1 rest w.4 k)
  where
    stops_next : (xs : List A) (b : List Lexeme) → Many W b xs → IsTrue (stops on (b ++ rest))
    stops_next [] b v = rw v (stops_right on test rest k)
    stops_next (z ∷ zs) b v = rw v.2 (head_stops on test apart v.0 v.1 rest (g.begins.at v.0 z v.3))

pub many_part : {A B : Type 0} (f : B → A → B) (on test : Lexeme → Bool) (W : List Lexeme → A → Type 0) (p : List Lexeme → Result (A × List Lexeme) ℕ) → Repeated on test W p
    → ((t : Lexeme) → IsTrue (test t) → on t ≡ false) → (y : B) → Part (λ t. test t || on t) (Folded f y W) (many_at f test p y)
many_part f on test W p g apart y = record {
  reads = record {
    took = λ ts z rest. many_took f on test W p g (length ts) ts (omega arith) y z rest;
    stuck = λ ts n. many_stuck f on test W p g (length ts) ts (omega arith) y n;
    again = λ ts z rest w k. many_again f on test W p g apart w.value y ts rest w.written k ∙ ap (λ v. done (v, rest)) (sym w.is);
  };
  begin = record { tail = []; value = y; filled = refl; written = record { value = []; written = refl; is = refl } };
}
