-- What the reading of all tokens says of them.
use Rattle.std.proofs.Common.{◌≡◌, ℕ, ◌-◌, ◌≤◌, Bool, List, [], ◌∷◌, ◌++◌, length, take, drop, Result, Err, sym, ap, subst, ◌∙◌, arith}
use Rattle.std.proofs.lemmas.List.{length-append, length-drop, length-take-le, drop_at}
use Rattle.order_core.specs.Pointwise.{Each}
use Rattle.design_lexer.specs.Cut.{StandsIn}
use Rattle.design_lexer.specs.Pieces.{is_long_for}
use Rattle.design_lexer.specs.Syntax.Classes.{Lexeme, lexemes_of}
use Rattle.design_lexer.specs.Syntax.Words.{place_or}
use Rattle.design_lexer.specs.Syntax.Faults.{Begun, Dead, FailsAt, IsProper}
use Rattle.design_lexer.specs.declared.token.Token.{Token}
use Rattle.design_lexer.specs.Syntax.FillerLaws.{fillers_proper}
use Rattle.design_lexer.specs.Syntax.Reading.{whole}
use Rattle.design_lexer.specs.Syntax.Parts.{Part}
use Rattle.design_lexer.specs.Syntax.PartLaws.{done_is}
use Rattle.design_lexer.specs.Syntax.WholeLaws.{whole_again, whole_fails}

-- no more tokens are left than there are
pub fails_within : {A : Type 0} (on : Lexeme → Bool) (W : List Lexeme → A → Type 0) (p : List Lexeme → Result (A × List Lexeme) ℕ) → Part on W p → (ts : List Lexeme) (n : ℕ) → whole (p ts) ≡ Err n → n ≤ length ts
fails_within on W p g ts n e = let s = whole_fails on W p g ts n e in omega (arith, s.left, ap length s.parts, length-append s.front s.rest)

-- nor where the reader stops before all of them are read
pub left_within : {A : Type 0} (on : Lexeme → Bool) (W : List Lexeme → A → Type 0) (p : List Lexeme → Result (A × List Lexeme) ℕ) → Part on W p → (ts : List Lexeme) (n : ℕ) → p ts ≡ Err n → n ≤ length ts
left_within on W p g ts n e = let t = g.reads.stuck ts n e in omega (arith, t.left, ap length t.parts, length-append t.front t.rest)

-- the fault's place, from the number of tokens left
pub fails_at : {A : Type 0} (on : Lexeme → Bool) (W : List Lexeme → A → Type 0) (p : List Lexeme → Result (A × List Lexeme) ℕ) → Part on W p → (end : ℕ) (ts : List Lexeme) (n at : ℕ) → whole (p ts) ≡ Err n
    → at ≡ place_or end (drop (length ts - n) ts) → FailsAt W end ts at
fails_at on W p g end ts n at e h =
    let s = whole_fails on W p g ts n e in
    let l : length s.front ≡ length ts - n = omega (arith, s.left, ap length s.parts, length-append s.front s.rest) in
    record {
      never = s.never;
      front = s.front;
      rest = s.rest;
      parts = s.parts;
      place = h ∙ ap (place_or end) (ap (drop (length ts - n)) s.parts ∙ drop_at s.front s.rest (length ts - n) l);
      begun = record { tail = s.opens.tail; value = s.opens.value; proper = fillers_proper s.opens.tail s.opens.filled; written = s.opens.written };
      dead = s.dead;
    }

-- one list of tokens writes at most one value
pub written_once : {A : Type 0} (on : Lexeme → Bool) (W : List Lexeme → A → Type 0) (p : List Lexeme → Result (A × List Lexeme) ℕ) → Part on W p → (ts : List Lexeme) (x y : A) → W ts x → W ts y → x ≡ y
written_once on W p g ts x y w v = done_is x y (sym (whole_again on W p g ts x w) ∙ whole_again on W p g ts y v)

-- ---- proper tokens

each_joined : {A : Type 0} (P : A → Type 0) (xs ys : List A) → Each P xs → Each P ys → Each P (xs ++ ys)
each_joined P [] ys h k = k
each_joined P (x ∷ xs) ys h k = (h.0, each_joined P xs ys h.1 k)

each_left : {A : Type 0} (P : A → Type 0) (xs ys : List A) → Each P (xs ++ ys) → Each P xs
each_left P [] ys h = tt
each_left P (x ∷ xs) ys h = (h.0, each_left P xs ys h.1)

-- The tokens that stand in a text are proper ones.
pub lexemes_proper : (text : List ℕ) (ts : List Token) → Each (StandsIn text) ts → Each IsProper (lexemes_of text ts)
lexemes_proper text [] h = tt
lexemes_proper text (t ∷ ts) h =
    let within = h.0.within in
    let len : length (take t.len (drop t.at text)) ≡ t.len = length-take-le t.len (drop t.at text) (omega (arith, within, length-drop t.at text)) in
    (record { form = h.0.form; short = ap (is_long_for t.kind) len ∙ h.0.short }, lexemes_proper text ts h.1)

-- ---- one place

inward : {A : Type 0} (W : List Lexeme → A → Type 0) (x : Lexeme) (xs : List Lexeme) → Begun W (x ∷ xs) → Begun (λ ts. W (x ∷ ts)) xs
inward W x xs b = record { tail = b.tail; value = b.value; proper = b.proper; written = b.written }

outward : {A : Type 0} (W : List Lexeme → A → Type 0) (x : Lexeme) (xs : List Lexeme) → Begun (λ ts. W (x ∷ ts)) xs → Begun W (x ∷ xs)
outward W x xs b = record { tail = b.tail; value = b.value; proper = b.proper; written = b.written }

dead_inward : {A : Type 0} (W : List Lexeme → A → Type 0) (x : Lexeme) (xs rest : List Lexeme) → Dead W (x ∷ xs) rest → Dead (λ ts. W (x ∷ ts)) xs rest
dead_inward W x xs [] d = tt
dead_inward W x xs (t ∷ rest) d = λ b. d (outward W x (xs ++ t ∷ []) b)

-- A list that begins with more tokens begins with the first of them.
begun_first : {A : Type 0} (W : List Lexeme → A → Type 0) (t : Lexeme) (ts : List Lexeme) → Each IsProper ts → Begun W (t ∷ ts) → Begun W (t ∷ [])
begun_first W t ts proper b = record { tail = ts ++ b.tail; value = b.value; proper = each_joined IsProper ts b.tail proper b.proper; written = b.written }

-- A list of proper tokens has one longest front with which a list that writes something begins.
rest_same : {A : Type 0} (W : List Lexeme → A → Type 0) (front bs cs ds : List Lexeme) → front ++ bs ≡ cs ++ ds → Each IsProper front → Each IsProper cs → Begun W front → Dead W front bs → Begun W cs → Dead W cs ds → bs ≡ ds
rest_same W [] bs [] ds e p q b d c f = e
rest_same W [] [] (y ∷ ys) ds e p q b d c f = absurd (cc)
rest_same W [] (t ∷ bs) (y ∷ ys) ds e p q b d c f =
    let same : y ≡ t = cc in
    absurd (d (begun_first W t ys q.1 (subst (λ z. Begun W (z ∷ ys)) same c)))
rest_same W (x ∷ xs) bs [] [] e p q b d c f = absurd (cc)
rest_same W (x ∷ xs) bs [] (t ∷ ds) e p q b d c f =
    let same : x ≡ t = cc in
    absurd (f (begun_first W t xs p.1 (subst (λ z. Begun W (z ∷ xs)) same b)))
rest_same W (x ∷ xs) bs (y ∷ ys) ds e p q b d c f =
    let same : y ≡ x = cc in
    let rest : xs ++ bs ≡ ys ++ ds = cc in
    rest_same (λ ts. W (x ∷ ts)) xs bs ys ds rest p.1 q.1 (inward W x xs b) (dead_inward W x xs bs d) (inward W x ys (subst (λ z. Begun W (z ∷ ys)) same c)) (dead_inward W x ys ds (subst (λ z. Dead W (z ∷ ys) ds) same f))

-- Proper tokens that write nothing go wrong at one place.
pub fails_same : {A : Type 0} (W : List Lexeme → A → Type 0) (end : ℕ) (ts : List Lexeme) (a b : ℕ) → Each IsProper ts → FailsAt W end ts a → FailsAt W end ts b → a ≡ b
fails_same W end ts a b proper h k =
    let rest : h.rest ≡ k.rest = rest_same W h.front h.rest k.front k.rest (sym h.parts ∙ k.parts) (each_left IsProper h.front h.rest (subst (Each IsProper) h.parts proper)) (each_left IsProper k.front k.rest (subst (Each IsProper) k.parts proper)) h.begun h.dead k.begun k.dead in
    h.place ∙ ap (place_or end) rest ∙ sym k.place
