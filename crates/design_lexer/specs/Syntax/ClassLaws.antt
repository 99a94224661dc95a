-- The laws by the classes of the next token.
use Rattle.std.proofs.Common.{◌≡◌, ℕ, zero, suc, Bool, true, false, ◌||◌, ◌&&◌, ◌==◌, eq-eqb, IsTrue, List, [], ◌∷◌, ◌++◌, Result, Ok, Err, refl, sym, ap, subst, ◌∙◌, inl, inr, ◌⊎◌}
use Rattle.std.specs.Str.{bytes_eq}
use Rattle.std.proofs.lemmas.Slice.Eq.{bytes_eq-Decides}
use Rattle.std.proofs.lemmas.Bool.{eqb-true}
use Rattle.order_core.specs.MemberLaws.{first, second, both}
use Rattle.design_lexer.specs.declared.token.TokenKind.{TokenKind}
use Rattle.design_lexer.specs.declared.token.TokenKind.TheVariants as token
use Rattle.design_lexer.specs.declared.syntax.class.Class.{Class}
use Rattle.design_lexer.specs.Syntax.Classes.{Lexeme, code, kind_of, spelling_of, is_free, is, starts, stops, one_of, sample, same_class, has, all_in, disjoint}
use Rattle.design_lexer.specs.Syntax.Fillers.{can_fill}
use Rattle.design_lexer.specs.Syntax.FillerLaws.{sample_fills}
use Rattle.design_lexer.specs.Syntax.Words.{One, Nothing, Then, Made, Either, Many, Folded, Sym, Mark, Else, Several, Listed, at_end}
use Rattle.design_lexer.specs.Syntax.Reading.{token_at, then_at, either_at, many_at, sym_at, mark_at, give, several_at, listed_at}
use Rattle.design_lexer.specs.Syntax.Parts.{Opens, Took, Stuck, Part, Begins, none, Follows}
use Rattle.design_lexer.specs.Syntax.PartLaws.{stops_none, cases_bool, then_part, token_part, nothing_part, made_part, either_part, wider, stops_fewer, starts_front}
use Rattle.design_lexer.specs.Syntax.Repeats.{Repeated}
use Rattle.design_lexer.specs.Syntax.RepeatLaws.{repeated, many_part, stops_right, head_stops}

-- ---- classes

abbrev kind_by : ℕ → TokenKind
kind_by zero = token.Name
kind_by (suc zero) = token.Word
kind_by (suc (suc zero)) = token.Whole
kind_by (suc (suc (suc zero))) = token.Decimal
kind_by (suc (suc (suc (suc n)))) = token.Symbol

kind_back : (a : TokenKind) → kind_by (code a) ≡ a
kind_back token.Name = refl
kind_back token.Word = refl
kind_back token.Whole = refl
kind_back token.Decimal = refl
kind_back token.Symbol = refl

same_kind : (a b : TokenKind) → IsTrue (code a == code b) → a ≡ b
same_kind a b h = sym (kind_back a) ∙ ap kind_by (eqb-true (code a) (code b) h) ∙ kind_back b

free_or : (b : Bool) (xs : List ℕ) → IsTrue (b || bytes_eq xs xs)
free_or true xs = refl
free_or false xs = (bytes_eq-Decides xs xs).1 refl

pub sample_is : (c : Class) → IsTrue (is c (sample c))
unfolding is
sample_is c = both (code (kind_of c) == code (kind_of c)) _ (eq-eqb (code (kind_of c)) (code (kind_of c)) refl) (free_or (is_free (kind_of c)) (spelling_of c))

-- what is of one class is of another as its samples are
alike : (c d : Class) (t : Lexeme) → is c t ≡ true → is d t ≡ same_class c d
unfolding is
alike c d t h =
    let kinds : kind_of c ≡ t.kind = same_kind (kind_of c) t.kind (first (code (kind_of c) == code t.kind) _ h) in
    spelled (is_free t.kind) refl (second (code (kind_of c) == code t.kind) _ h) kinds
  where
    spelled : (b : Bool) → b ≡ is_free t.kind → IsTrue (is_free t.kind || bytes_eq (spelling_of c) t.bytes) → kind_of c ≡ t.kind → is d t ≡ same_class c d
    spelled true e k kinds = rw (kinds, sym e) refl
    spelled false e k kinds = rw (kinds, sym e) (ap (λ z. code (kind_of d) == code t.kind && bytes_eq (spelling_of d) z) (sym ((bytes_eq-Decides (spelling_of c) t.bytes).0 (rw (sym e) at k))))

pub alike_all : (c : Class) (ds : List Class) (t : Lexeme) → IsTrue (is c t) → one_of ds t ≡ has c ds
alike_all c [] t h = refl
alike_all c (d ∷ ds) t h = rw (alike c d t h, alike_all c ds t h) refl

-- a token of this class is of none of those
pub apart : (c : Class) (ds : List Class) → has c ds ≡ false → (t : Lexeme) → IsTrue (is c t) → one_of ds t ≡ false
apart c ds h t e = alike_all c ds t e ∙ h

pub found : (c : Class) (ds : List Class) → has c ds ≡ true → (t : Lexeme) → IsTrue (is c t) → IsTrue (one_of ds t)
found c ds h t e = alike_all c ds t e ∙ h

pub fewer : (cs ds : List Class) → all_in cs ds ≡ true → (t : Lexeme) → IsTrue (one_of cs t) → IsTrue (one_of ds t)
fewer [] ds h t e = absurd (let z : false ≡ true = e in cc)
fewer (c ∷ cs) ds h t e =
    elim (cases_bool (is c t)) [
      | inl m ↦ found c ds (first (has c ds) _ h) t m
      | inr m ↦ fewer cs ds (second (has c ds) _ h) t (rw m at e)
    ]

-- these may not follow, and more
pub with_more : {A : Type 0} (cs ds : List Class) → all_in cs ds ≡ true → (W : List Lexeme → A → Type 0) (p : List Lexeme → Result (A × List Lexeme) ℕ) → Part (one_of cs) W p → Part (one_of ds) W p
with_more cs ds k W p g = wider (one_of cs) (one_of ds) W p (fewer cs ds k) g

-- ---- symbols

pub class_part : (c : Class) → can_fill c ≡ true → Part none (One (is c)) (token_at (is c))
class_part c k = token_part (is c) (sample c) (sample_is c) (sample_fills c k)

skip_token : {B : Type 0} (c : Class) (q : List Lexeme → Result (B × List Lexeme) ℕ) (ts : List Lexeme) → then_at (token_at (is c)) (λ _. q) ts ≡ sym_at c q ts
skip_token c q [] = refl
skip_token c q (t ∷ ts) = elim (cases_bool (is c t)) [ inl m ↦ rw m refl | inr m ↦ rw m refl ]

pub sym_part : {B : Type 0} (c : Class) → can_fill c ≡ true → (off : Lexeme → Bool) (V : List Lexeme → B → Type 0) (q : List Lexeme → Result (B × List Lexeme) ℕ)
    → Part off V q → Part off (Sym c V) (sym_at c q)
sym_part c k off V q h =
    subst (Part off (Sym c V)) (λ i ts. skip_token c q ts i)
    (then_part none off (One (is c)) (λ _. V) (token_at (is c)) (λ _. q) (class_part c k) (λ _. h) (λ x b y rest v l. stops_none (b ++ rest)))

-- what nothing continues goes before anything
pub closed_then : {A B : Type 0} (off : Lexeme → Bool) (W : List Lexeme → A → Type 0) (V : A → List Lexeme → B → Type 0) (p : List Lexeme → Result (A × List Lexeme) ℕ) (q : A → List Lexeme → Result (B × List Lexeme) ℕ)
    → Part none W p → ((x : A) → Part off (V x) (q x)) → Part off (Then W V) (then_at p q)
closed_then off W V p q g h = then_part none off W V p q g h (λ x b y rest v l. stops_none (b ++ rest))

-- and anything goes before a symbol that does not continue it
pub open_then : {A B : Type 0} (on : List Class) (off : Lexeme → Bool) (c : Class) → has c on ≡ false → (W : List Lexeme → A → Type 0) (V : A → List Lexeme → B → Type 0) (p : List Lexeme → Result (A × List Lexeme) ℕ) (q : A → List Lexeme → Result (B × List Lexeme) ℕ)
    → Part (one_of on) W p → ((x : A) → Part off (Sym c (V x)) (sym_at c (q x))) → Part off (Then W (λ x. Sym c (V x))) (then_at p (λ x. sym_at c (q x)))
open_then on off c k W V p q g h = then_part (one_of on) off W (λ x. Sym c (V x)) p (λ x. sym_at c (q x)) g h
    (λ x b y rest v l. ends v.front v.back rest b v.value v.parts v.first)
  where
    ends : (front back rest b : List Lexeme) (t : Lexeme) → b ≡ front ++ back → One (is c) front t → IsTrue (stops (one_of on) (b ++ rest))
    ends front back rest b t e o = rw (e, o.is, apart c on k t o.passes) refl

-- ---- lists

pub begins_sym : {B : Type 0} (c : Class) (V : List Lexeme → B → Type 0) → Begins (is c) (Sym c V)
begins_sym {B = B} c V = record { at = λ ts x w. begins_at ts w.front w.back w.value w.parts w.first }
  where
    begins_at : (ts front back : List Lexeme) (t : Lexeme) → ts ≡ front ++ back → One (is c) front t → IsTrue (starts (is c) ts)
    begins_at ts front back t e o = rw (e, o.is) o.passes

-- after a separator, which was seen
pub after_item : {A : Type 0} (on : Lexeme → Bool) (sep : Class) (W : List Lexeme → A → Type 0) (p : List Lexeme → Result (A × List Lexeme) ℕ) → Part on W p → Repeated on (is sep) (Sym sep W) (sym_at sep p)
after_item {A = A} on sep W p g = record { took = took; stuck = stuck; again = again; begins = begins_sym sep W }
  where
    seen : (t : Lexeme) (ts : List Lexeme) → is sep t ≡ true → sym_at sep p (t ∷ ts) ≡ p ts
    seen t ts s = rw s refl

    took : (ts : List Lexeme) (x : A) (rest : List Lexeme) → starts (is sep) ts ≡ true → sym_at sep p ts ≡ Ok (x, rest) → Took (Sym sep W) (sym_at sep p) ts x rest
    took [] x rest s e = absurd (let z : false ≡ true = s in cc)
    took (t ∷ ts) x rest s e =
        let k = g.reads.took ts x rest (sym (seen t ts s) ∙ e) in
        record {
          front = t ∷ k.front;
          parts = ap (λ (z : List Lexeme). t ∷ z) k.parts;
          same = λ more m. seen t (k.front ++ more) s ∙ k.same more m;
          written = record { front = t ∷ []; back = k.front; value = t; parts = refl; first = record { is = refl; passes = s }; second = k.written };
        }

    stuck : (ts : List Lexeme) (n : ℕ) → starts (is sep) ts ≡ true → sym_at sep p ts ≡ Err n → Stuck (Sym sep W) (sym_at sep p) ts n
    stuck [] n s e = absurd (let z : false ≡ true = s in cc)
    stuck (t ∷ ts) n s e =
        let k = g.reads.stuck ts n (sym (seen t ts s) ∙ e) in
        let o = k.opens in
        record {
          front = t ∷ k.front;
          rest = k.rest;
          parts = ap (λ (z : List Lexeme). t ∷ z) k.parts;
          left = k.left;
          same = λ more m. seen t (k.front ++ more) s ∙ k.same more m;
          opens = record {
            tail = o.tail;
            value = o.value;
            filled = o.filled;
            written = record { front = t ∷ []; back = k.front ++ o.tail; value = t; parts = refl; first = record { is = refl; passes = s }; second = o.written };
          };
        }

    again : (ts : List Lexeme) (x : A) (rest : List Lexeme) → Sym sep W ts x → IsTrue (stops on rest) → sym_at sep p (ts ++ rest) ≡ Ok (x, rest)
    again ts x rest w l =
        ap (λ z. sym_at sep p (z ++ rest)) w.parts ∙ ap (λ z. sym_at sep p ((z ++ w.back) ++ rest)) w.first.is
        ∙ seen w.value (w.back ++ rest) w.first.passes ∙ g.reads.again w.back x rest w.second l

follows_many : {A B C : Type 0} (on : List Class) (sep : Class) → has sep on ≡ false → (f : B → A → B) (y : C → B) (W : List Lexeme → A → Type 0)
    → Follows (one_of on) (one_of (sep ∷ on)) (λ x. Folded f (y x) (Sym sep W))
follows_many {A = A} on sep k f y W x b z rest v l = ends v.value b v.written
  where
    ends : (xs : List A) (b : List Lexeme) → Many (Sym sep W) b xs → IsTrue (stops (one_of on) (b ++ rest))
    ends [] b m = rw m (stops_right (one_of on) (is sep) rest l)
    ends (x ∷ xs) b m = rw m.2 (head_stops (one_of on) (is sep) (apart sep on k) m.0 m.1 rest ((begins_sym sep W).at m.0 x m.3))

-- one, and any number after a separator
pub after_part : {A B : Type 0} (on : List Class) (sep : Class) → has sep on ≡ false → (f : B → A → B) (y : A → B) (W : List Lexeme → A → Type 0) (p : List Lexeme → Result (A × List Lexeme) ℕ)
    → Part (one_of on) W p → Part (one_of (sep ∷ on)) (Then W (λ x. Folded f (y x) (Sym sep W))) (then_at p (λ x. many_at f (is sep) (sym_at sep p) (y x)))
after_part on sep k f y W p g =
    then_part (one_of on) (one_of (sep ∷ on)) W (λ x. Folded f (y x) (Sym sep W)) p (λ x. many_at f (is sep) (sym_at sep p) (y x)) g
    (λ x. many_part f (one_of on) (is sep) (Sym sep W) (sym_at sep p) (after_item (one_of on) sep W p g) (apart sep on k) (y x))
    (follows_many on sep k f y W)

-- ---- first tokens and choices

pub begins_one : (test : Lexeme → Bool) → Begins test (One test)
begins_one test = record { at = λ ts t o. rw o.is o.passes }

pub begins_made : {A B : Type 0} (test : Lexeme → Bool) (f : A → B) (W : List Lexeme → A → Type 0) → Begins test W → Begins test (Made f W)
begins_made test f W b = record { at = λ ts x w. b.at ts w.value w.written }

pub begins_then : {A B : Type 0} (test : Lexeme → Bool) (W : List Lexeme → A → Type 0) (V : A → List Lexeme → B → Type 0) → Begins test W → Begins test (Then W V)
begins_then test W V b = record { at = λ ts y w. rw w.parts (starts_front test w.front w.back (b.at w.front w.value w.first)) }

pub begins_either : {A : Type 0} (test : Lexeme → Bool) (W V : List Lexeme → A → Type 0) → Begins test W → Begins test V → Begins test (Either W V)
begins_either test W V b c = record { at = λ ts x w. elim w [ inl h ↦ b.at ts x h | inr h ↦ c.at ts x h ] }

begins_all : {A : Type 0} (test more : Lexeme → Bool) (W : List Lexeme → A → Type 0) → ((t : Lexeme) → IsTrue (test t) → IsTrue (more t)) → Begins test W → Begins more W
begins_all test more W h b = record { at = λ ts x w. all ts (b.at ts x w) }
  where
    all : (ts : List Lexeme) → IsTrue (starts test ts) → IsTrue (starts more ts)
    all [] k = absurd cc
    all (t ∷ ts) k = h t k

pub begins_in : {A : Type 0} (c : Class) (ds : List Class) → has c ds ≡ true → (W : List Lexeme → A → Type 0) → Begins (is c) W → Begins (one_of ds) W
begins_in c ds k W b = begins_all (is c) (one_of ds) W (found c ds k) b

pub begins_more : {A : Type 0} (cs ds : List Class) → all_in cs ds ≡ true → (W : List Lexeme → A → Type 0) → Begins (one_of cs) W → Begins (one_of ds) W
begins_more cs ds k W b = begins_all (one_of cs) (one_of ds) W (fewer cs ds k) b

-- a choice by the class of the next token
pub choice_part : {A : Type 0} (on ds : List Class) (c : Class) → has c ds ≡ false → (W V : List Lexeme → A → Type 0) (p q : List Lexeme → Result (A × List Lexeme) ℕ)
    → Begins (is c) W → Begins (one_of ds) V → Part (one_of on) W p → Part (one_of on) V q → Part (one_of on) (Either W V) (either_at (is c) p q)
choice_part on ds c k W V p q b d g h = either_part (one_of on) (is c) W V p q g h.reads b (λ ts x rest v l. not_c ts rest (d.at ts x v))
  where
    not_c : (ts rest : List Lexeme) → IsTrue (starts (one_of ds) ts) → starts (is c) (ts ++ rest) ≡ false
    not_c [] rest e = absurd cc
    not_c (t ∷ ts) rest e = elim (cases_bool (is c t)) [ inl m ↦ absurd (let z = apart c ds k t m in let y : true ≡ false = sym e ∙ z in cc) | inr m ↦ m ]

-- what stands there only where the next token is of the class
pub optional_part : {A : Type 0} (on : List Class) (c : Class) → has c on ≡ true → (W : List Lexeme → A → Type 0) (v : A) (p : List Lexeme → Result (A × List Lexeme) ℕ)
    → Begins (is c) W → Part (one_of on) W p → Part (one_of on) (Either W (Nothing v)) (either_at (is c) p (give v))
optional_part on c k W v p b g = either_part (one_of on) (is c) W (Nothing v) p (give v) g (nothing_part (one_of on) v).reads b (λ ts x rest n l. rw n.is (not_c rest l))
  where
    not_c : (rest : List Lexeme) → IsTrue (stops (one_of on) rest) → starts (is c) rest ≡ false
    not_c [] l = refl
    not_c (t ∷ rest) l = elim (cases_bool (is c t)) [ inl m ↦ absurd (let z = found c on k t m in let y : false ≡ true = rw z at l in cc) | inr m ↦ m ]

-- any number, as long as the next token is of the class
pub each_part : {A B : Type 0} (on : List Class) (c : Class) → has c on ≡ false → (f : B → A → B) (y : B) (W : List Lexeme → A → Type 0) (p : List Lexeme → Result (A × List Lexeme) ℕ)
    → Begins (is c) W → Part (one_of on) W p → Part (one_of (c ∷ on)) (Folded f y W) (many_at f (is c) p y)
each_part on c k f y W p b g = many_part f (one_of on) (is c) W p (repeated (one_of on) (is c) W p g.reads b) (apart c on k) y

-- ---- by several classes

pub apart_any : (cs ds : List Class) → disjoint cs ds ≡ true → (t : Lexeme) → IsTrue (one_of cs t) → one_of ds t ≡ false
apart_any [] ds h t e = absurd cc
apart_any (c ∷ cs) ds h t e =
    elim (cases_bool (has c ds)) [
      | inl k ↦ absurd (let z : false ≡ true = rw k at h in cc)
      | inr k ↦ elim (cases_bool (is c t)) [ inl m ↦ apart c ds k t m | inr m ↦ apart_any cs ds (rw k at h) t (rw m at e) ]
    ]

stops_begun : (on ds : List Class) → disjoint ds on ≡ true → (b rest : List Lexeme) → IsTrue (starts (one_of ds) b) → IsTrue (stops (one_of on) (b ++ rest))
stops_begun on ds k [] rest h = absurd cc
stops_begun on ds k (t ∷ b) rest h = rw (apart_any ds on k t h) refl

-- before what begins otherwise
pub open_before : {A B : Type 0} (on ds : List Class) (off : Lexeme → Bool) → disjoint ds on ≡ true → (W : List Lexeme → A → Type 0) (V : A → List Lexeme → B → Type 0) (p : List Lexeme → Result (A × List Lexeme) ℕ) (q : A → List Lexeme → Result (B × List Lexeme) ℕ)
    → Part (one_of on) W p → ((x : A) → Begins (one_of ds) (V x)) → ((x : A) → Part off (V x) (q x)) → Part off (Then W V) (then_at p q)
open_before on ds off k W V p q g b h = then_part (one_of on) off W V p q g h (λ x b' y rest v l. stops_begun on ds k b' rest ((b x).at b' y v))

-- before what begins otherwise, or is empty
pub open_maybe : {A B C : Type 0} (on ds off : List Class) → disjoint ds on ≡ true → all_in on off ≡ true → (W : List Lexeme → A → Type 0) (f : A → C → B) (V : List Lexeme → C → Type 0) (v : C) (p : List Lexeme → Result (A × List Lexeme) ℕ) (q : A → List Lexeme → Result (B × List Lexeme) ℕ)
    → Part (one_of on) W p → Begins (one_of ds) V → ((x : A) → Part (one_of off) (Made (f x) (Either V (Nothing v))) (q x)) → Part (one_of off) (Then W (λ x. Made (f x) (Either V (Nothing v)))) (then_at p q)
open_maybe on ds off k m W f V v p q g b h = then_part (one_of on) (one_of off) W (λ x. Made (f x) (Either V (Nothing v))) p q g h
    (λ x b' y rest w l. elim w.written [
      | inl u ↦ stops_begun on ds k b' rest (b.at b' w.value u)
      | inr u ↦ rw u.is (stops_fewer (one_of on) (one_of off) (fewer on off m) rest l)
    ])

pub maybe_part : {A : Type 0} (on cs : List Class) → all_in cs on ≡ true → (W : List Lexeme → A → Type 0) (v : A) (p : List Lexeme → Result (A × List Lexeme) ℕ)
    → Begins (one_of cs) W → Part (one_of on) W p → Part (one_of on) (Either W (Nothing v)) (either_at (one_of cs) p (give v))
maybe_part on cs k W v p b g = either_part (one_of on) (one_of cs) W (Nothing v) p (give v) g (nothing_part (one_of on) v).reads b (λ ts x rest n l. rw n.is (not_c rest l))
  where
    not_c : (rest : List Lexeme) → IsTrue (stops (one_of on) rest) → starts (one_of cs) rest ≡ false
    not_c [] l = refl
    not_c (t ∷ rest) l = elim (cases_bool (one_of cs t)) [ inl m ↦ absurd (let z = fewer cs on k t m in let y : false ≡ true = rw z at l in cc) | inr m ↦ m ]

pub each_any : {A B : Type 0} (on cs : List Class) → disjoint cs on ≡ true → (f : B → A → B) (y : B) (W : List Lexeme → A → Type 0) (p : List Lexeme → Result (A × List Lexeme) ℕ)
    → Begins (one_of cs) W → Part (one_of on) W p → Part (λ t. one_of cs t || one_of on t) (Folded f y W) (many_at f (one_of cs) p y)
each_any on cs k f y W p b g = many_part f (one_of on) (one_of cs) W p (repeated (one_of on) (one_of cs) W p g.reads b) (apart_any cs on k) y

-- one, and any number that each begin with one of the classes
pub run_part : {A B C : Type 0} (on cs off : List Class) → disjoint cs on ≡ true → all_in cs off ≡ true → all_in on off ≡ true → (f : B → C → B) (y : A → B) (W : List Lexeme → A → Type 0) (V : List Lexeme → C → Type 0)
    (p : List Lexeme → Result (A × List Lexeme) ℕ) (q : List Lexeme → Result (C × List Lexeme) ℕ)
    → Part (one_of on) W p → Begins (one_of cs) V → Part (one_of on) V q → Part (one_of off) (Then W (λ x. Folded f (y x) V)) (then_at p (λ x. many_at f (one_of cs) q (y x)))
run_part {C = C} on cs off k m n f y W V p q g b h =
    wider (λ t. one_of cs t || one_of on t) (one_of off) (Then W (λ x. Folded f (y x) V)) (then_at p (λ x. many_at f (one_of cs) q (y x))) both
    (then_part (one_of on) (λ t. one_of cs t || one_of on t) W (λ x. Folded f (y x) V) p (λ x. many_at f (one_of cs) q (y x)) g (λ x. each_any on cs k f (y x) V q b h)
    (λ x b' z rest w l. ends w.value b' rest w.written l))
  where
    both : (t : Lexeme) → IsTrue (one_of cs t || one_of on t) → IsTrue (one_of off t)
    both t e = elim (cases_bool (one_of cs t)) [ inl i ↦ fewer cs off m t i | inr i ↦ fewer on off n t (rw i at e) ]

    ends : (xs : List C) (b' rest : List Lexeme) → Many V b' xs → IsTrue (stops (λ t. one_of cs t || one_of on t) rest) → IsTrue (stops (one_of on) (b' ++ rest))
    ends [] b' rest w l = rw w (stops_right (one_of on) (one_of cs) rest l)
    ends (x ∷ xs) b' rest w l = rw w.2 (head_stops (one_of on) (one_of cs) (apart_any cs on k) w.0 w.1 rest (b.at w.0 x w.3))

-- what each_any gives, with one list of classes
pub widened : {A : Type 0} (on cs off : List Class) → all_in cs off ≡ true → all_in on off ≡ true → (W : List Lexeme → A → Type 0) (p : List Lexeme → Result (A × List Lexeme) ℕ)
    → Part (λ t. one_of cs t || one_of on t) W p → Part (one_of off) W p
widened on cs off m n W p g = wider (λ t. one_of cs t || one_of on t) (one_of off) W p both g
  where
    both : (t : Lexeme) → IsTrue (one_of cs t || one_of on t) → IsTrue (one_of off t)
    both t e = elim (cases_bool (one_of cs t)) [ inl i ↦ fewer cs off m t i | inr i ↦ fewer on off n t (rw i at e) ]

-- the same lists, said in another form
pub same_part : {A : Type 0} (on : Lexeme → Bool) (W V : List Lexeme → A → Type 0) (p : List Lexeme → Result (A × List Lexeme) ℕ)
    → ((ts : List Lexeme) (x : A) → W ts x → V ts x) → ((ts : List Lexeme) (x : A) → V ts x → W ts x) → Part on W p → Part on V p
same_part on W V p there back g = record {
  reads = record {
    took = λ ts x rest e. let t = g.reads.took ts x rest e in record { front = t.front; parts = t.parts; written = there t.front x t.written; same = t.same };
    stuck = λ ts n e. let t = g.reads.stuck ts n e in record { front = t.front; rest = t.rest; parts = t.parts; left = t.left; same = t.same; opens = other t.front t.opens };
    again = λ ts x rest w k. g.reads.again ts x rest (back ts x w) k;
  };
  begin = other [] g.begin;
}
  where
    other : (front : List Lexeme) → Opens W front → Opens V front
    other front o = record { tail = o.tail; value = o.value; filled = o.filled; written = there (front ++ o.tail) o.value o.written }

-- either order, where one list of tokens tells
pub swapped : {A : Type 0} (on : Lexeme → Bool) (W V : List Lexeme → A → Type 0) (p : List Lexeme → Result (A × List Lexeme) ℕ) → Part on (Either W V) p → Part on (Either V W) p
swapped on W V p g = same_part on (Either W V) (Either V W) p (λ ts x w. turn ts x W V w) (λ ts x w. turn ts x V W w) g
  where
    turn : {A : Type 0} (ts : List Lexeme) (x : A) (W V : List Lexeme → A → Type 0) → Either W V ts x → Either V W ts x
    turn ts x W V (inl w) = inr w
    turn ts x W V (inr w) = inl w

-- two that begin alike
pub shared : {A B C D : Type 0} (on : Lexeme → Bool) (W : List Lexeme → A → Type 0) (f : B → D) (V : A → List Lexeme → B → Type 0) (h : C → D) (U : A → List Lexeme → C → Type 0) (p : List Lexeme → Result (D × List Lexeme) ℕ)
    → Part on (Then W (λ x. Either (Made f (V x)) (Made h (U x)))) p → Part on (Either (Made f (Then W V)) (Made h (Then W U))) p
shared {A = A} {D = D} on W f V h U p g =
    same_part on (Then W (λ x. Either (Made f (V x)) (Made h (U x)))) (Either (Made f (Then W V)) (Made h (Then W U))) p (λ ts y w. there ts y w.front w.back w.value w.parts w.first w.second) back g
  where
    there : (ts : List Lexeme) (y : D) (front rest : List Lexeme) (x : A) → ts ≡ front ++ rest → W front x → Either (Made f (V x)) (Made h (U x)) rest y → Either (Made f (Then W V)) (Made h (Then W U)) ts y
    there ts y front rest x e w (inl v) = inl (record { value = v.value; written = record { front = front; back = rest; value = x; parts = e; first = w; second = v.written }; is = v.is })
    there ts y front rest x e w (inr u) = inr (record { value = u.value; written = record { front = front; back = rest; value = x; parts = e; first = w; second = u.written }; is = u.is })

    back : (ts : List Lexeme) (y : D) → Either (Made f (Then W V)) (Made h (Then W U)) ts y → Then W (λ x. Either (Made f (V x)) (Made h (U x))) ts y
    back ts y (inl t) = record { front = t.written.front; back = t.written.back; value = t.written.value; parts = t.written.parts; first = t.written.first; second = inl (record { value = t.value; written = t.written.second; is = t.is }) }
    back ts y (inr t) = record { front = t.written.front; back = t.written.back; value = t.written.value; parts = t.written.parts; first = t.written.first; second = inr (record { value = t.value; written = t.written.second; is = t.is }) }

-- ---- one token of several classes, and its place

pub classes_part : (c : Class) (ds : List Class) → has c ds ≡ true → can_fill c ≡ true → Part none (One (one_of ds)) (token_at (one_of ds))
classes_part c ds h k = token_part (one_of ds) (sample c) (found c ds h (sample c) (sample_is c)) (sample_fills c k)

pub mark_part : (c : Class) → can_fill c ≡ true → Part none (Mark c) (mark_at c)
mark_part c k = made_part none (λ t. t.at) (One (is c)) (token_at (is c)) (class_part c k)

pub begins_mark : (c : Class) → Begins (is c) (Mark c)
begins_mark c = begins_made (is c) (λ t. t.at) (One (is c)) (begins_one (is c))

-- a choice by several classes of the next token
pub choice_any : {A : Type 0} (on ds cs : List Class) → disjoint ds cs ≡ true → (W V : List Lexeme → A → Type 0) (p q : List Lexeme → Result (A × List Lexeme) ℕ)
    → Begins (one_of cs) W → Begins (one_of ds) V → Part (one_of on) W p → Part (one_of on) V q → Part (one_of on) (Either W V) (either_at (one_of cs) p q)
choice_any on ds cs k W V p q b d g h = either_part (one_of on) (one_of cs) W V p q g h.reads b (λ ts x rest v l. not_c ts rest (d.at ts x v))
  where
    not_c : (ts rest : List Lexeme) → IsTrue (starts (one_of ds) ts) → starts (one_of cs) (ts ++ rest) ≡ false
    not_c [] rest e = absurd (let z : false ≡ true = e in cc)
    not_c (t ∷ ts) rest e = apart_any ds cs k t e

-- ---- what may be empty

-- what is written is empty, or begins with a token that passes the test
pub record BeginsOrEmpty {A : Type 0} (test : Lexeme → Bool) (W : List Lexeme → A → Type 0) : Type 0 where
  pub at : (ts : List Lexeme) (x : A) → W ts x → (ts ≡ []) ⊎ IsTrue (starts test ts)

pub else_or : {A : Type 0} (test : Lexeme → Bool) (v : A) (W : List Lexeme → A → Type 0) → Begins test W → BeginsOrEmpty test (Else v W)
else_or test v W b = record { at = λ ts x w. elim w [ inl h ↦ inr (b.at ts x h) | inr n ↦ inl n.is ] }

pub made_or : {A B : Type 0} (test : Lexeme → Bool) (f : A → B) (W : List Lexeme → A → Type 0) → BeginsOrEmpty test W → BeginsOrEmpty test (Made f W)
made_or test f W b = record { at = λ ts x w. b.at ts w.value w.written }

pub folded_or : {A B : Type 0} (test : Lexeme → Bool) (f : B → A → B) (y : B) (W : List Lexeme → A → Type 0) → Begins test W → BeginsOrEmpty test (Folded f y W)
folded_or {A = A} test f y W b = record { at = λ ts x w. first_of w.value ts w.written }
  where
    first_of : (xs : List A) (ts : List Lexeme) → Many W ts xs → (ts ≡ []) ⊎ IsTrue (starts test ts)
    first_of [] ts m = inl m
    first_of (x ∷ xs) ts m = inr (subst (λ z. IsTrue (starts test z)) (sym m.2) (starts_front test m.0 m.1 (b.at m.0 x m.3)))

pub begins_or : {A : Type 0} (test : Lexeme → Bool) (W : List Lexeme → A → Type 0) → Begins test W → BeginsOrEmpty test W
begins_or test W b = record { at = λ ts x w. inr (b.at ts x w) }

pub either_or : {A : Type 0} (test : Lexeme → Bool) (W V : List Lexeme → A → Type 0) → BeginsOrEmpty test W → BeginsOrEmpty test V → BeginsOrEmpty test (Either W V)
either_or test W V b d = record { at = λ ts x w. elim w [ inl h ↦ b.at ts x h | inr h ↦ d.at ts x h ] }

pub or_in : {A : Type 0} (c : Class) (ds : List Class) → has c ds ≡ true → (W : List Lexeme → A → Type 0) → BeginsOrEmpty (is c) W → BeginsOrEmpty (one_of ds) W
or_in c ds k W b = record { at = λ ts x w. elim (b.at ts x w) [ inl e ↦ inl e | inr s ↦ inr (all ts s) ] }
  where
    all : (ts : List Lexeme) → IsTrue (starts (is c) ts) → IsTrue (starts (one_of ds) ts)
    all [] s = s
    all (t ∷ ts) s = found c ds k t s

-- what may be empty begins as what comes after it, too
pub begins_past : {A B : Type 0} (test : Lexeme → Bool) (W : List Lexeme → A → Type 0) (V : A → List Lexeme → B → Type 0) → BeginsOrEmpty test W → ((x : A) → Begins test (V x)) → Begins test (Then W V)
begins_past test W V b d = record { at = λ ts y w. past ts w.front w.back w.parts (b.at w.front w.value w.first) ((d w.value).at w.back y w.second) }
  where
    past : (ts front back : List Lexeme) → ts ≡ front ++ back → (front ≡ []) ⊎ IsTrue (starts test front) → IsTrue (starts test back) → IsTrue (starts test ts)
    past ts front back e (inl n) s = rw (e, n) s
    past ts front back e (inr h) s = rw e (starts_front test front back h)

-- a choice by the class of the next token, the second of which may be empty
pub choice_or : {A : Type 0} (on ds : List Class) (c : Class) → has c ds ≡ false → has c on ≡ true → (W V : List Lexeme → A → Type 0) (p q : List Lexeme → Result (A × List Lexeme) ℕ)
    → Begins (is c) W → BeginsOrEmpty (one_of ds) V → Part (one_of on) W p → Part (one_of on) V q → Part (one_of on) (Either W V) (either_at (is c) p q)
choice_or on ds c k m W V p q b d g h = either_part (one_of on) (is c) W V p q g h.reads b (λ ts x rest v l. not_c ts rest (d.at ts x v) l)
  where
    ended : (rest : List Lexeme) → IsTrue (stops (one_of on) rest) → starts (is c) rest ≡ false
    ended [] l = refl
    ended (t ∷ rest) l = elim (cases_bool (is c t)) [ inl e ↦ absurd (let z = found c on m t e in let y : false ≡ true = rw z at l in cc) | inr e ↦ e ]

    not_c : (ts rest : List Lexeme) → (ts ≡ []) ⊎ IsTrue (starts (one_of ds) ts) → IsTrue (stops (one_of on) rest) → starts (is c) (ts ++ rest) ≡ false
    not_c ts rest (inl n) l = rw n (ended rest l)
    not_c [] rest (inr e) l = ended rest l
    not_c (t ∷ ts) rest (inr e) l = elim (cases_bool (is c t)) [ inl i ↦ absurd (let z = apart c ds k t i in let y : true ≡ false = sym e ∙ z in cc) | inr i ↦ i ]

-- one or more, of what nothing continues
pub several_part : {A : Type 0} (c : Class) (W : List Lexeme → A → Type 0) (p : List Lexeme → Result (A × List Lexeme) ℕ) → Begins (is c) W → Part none W p → Part (one_of (c ∷ [])) (Several W) (several_at (is c) p)
several_part c W p b g = closed_then (one_of (c ∷ [])) W (λ x. Folded at_end (x ∷ []) W) p (λ x. many_at at_end (is c) p (x ∷ [])) g (λ x. each_part [] c refl at_end (x ∷ []) W p b g)

-- "W { c W }" into a list
pub listed_part : {A : Type 0} (on : List Class) (c : Class) → has c on ≡ false → (W : List Lexeme → A → Type 0) (p : List Lexeme → Result (A × List Lexeme) ℕ) → Part (one_of on) W p → Part (one_of (c ∷ on)) (Listed c W) (listed_at c p)
listed_part on c k W p g = after_part on c k at_end (λ x. x ∷ []) W p g

-- "{ W }" by several classes
pub any_part : {A B : Type 0} (cs : List Class) → (f : B → A → B) (y : B) (W : List Lexeme → A → Type 0) (p : List Lexeme → Result (A × List Lexeme) ℕ) → disjoint cs [] ≡ true → all_in cs cs ≡ true → all_in [] cs ≡ true
    → Begins (one_of cs) W → Part none W p → Part (one_of cs) (Folded f y W) (many_at f (one_of cs) p y)
any_part cs f y W p k m n b g = widened [] cs cs m n (Folded f y W) (many_at f (one_of cs) p y) (each_any [] cs k f y W p b g)
