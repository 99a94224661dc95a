-- A part with at most so many signs is read without reading a sign past the limit.
use Rattle.std.proofs.Common.{◌≡◌, ℕ, zero, suc, ◌+◌, ◌-◌, ◌≤◌, true, false, IsTrue, List, [], ◌∷◌, ◌++◌, length, take, Result, Ok, Err, refl, sym, ap, subst, ◌∙◌, append_assoc, arith, inl, inr}
use Rattle.std.proofs.lemmas.List.Folds.{list_all-append}
use Rattle.std.proofs.lemmas.List.{append-nil, length-append, take_at}
use Rattle.std.specs.List.{list_all}
use Rattle.design_lexer.specs.Syntax.ClassLaws.{apart}
use Rattle.design_lexer.specs.Syntax.Classes.{Lexeme, is}
use Rattle.design_lexer.specs.Syntax.FillerLaws.{filler_quiet}
use Rattle.design_lexer.specs.Syntax.Fillers.{is_filler}
use Rattle.design_lexer.specs.Syntax.PartLaws.{stops_none, cases_bool}
use Rattle.design_lexer.specs.Syntax.Parts.{SameHead, Opens, Took, Stuck, Part, none}
use Rattle.design_lexer.specs.Syntax.Reading.{over, few_at, cut_at}
use Rattle.design_lexer.specs.Syntax.RepeatLaws.{none_errs}
use Rattle.design_lexer.specs.Syntax.Statements.{is_plain, IsStatement, AreStatements}
use Rattle.design_lexer.specs.Syntax.Words.{Few, is_sign, signs}
use Rattle.design_lexer.specs.declared.syntax.class.Class.TheVariants as class
use Rattle.order_core.specs.MemberLaws.{first, second, both, not_true, true_not}

pub over_nothing : (limit : ℕ) → over limit [] ≡ 0
unfolding over
over_nothing limit = refl

pub over_past : (t : Lexeme) (ts : List Lexeme) → is_sign t ≡ true → over 0 (t ∷ ts) ≡ length (t ∷ ts)
unfolding over
over_past t ts h = rw h refl

pub over_sign : (n : ℕ) (t : Lexeme) (ts : List Lexeme) → is_sign t ≡ true → over (suc n) (t ∷ ts) ≡ over n ts
unfolding over
over_sign n t ts h = rw h refl

pub over_end : (limit : ℕ) (t : Lexeme) (ts : List Lexeme) → is_sign t ≡ false → is class.Semicolon t ≡ true → over limit (t ∷ ts) ≡ 0
unfolding over
over_end limit t ts h k = rw (h, k) refl

pub over_other : (limit : ℕ) (t : Lexeme) (ts : List Lexeme) → is_sign t ≡ false → is class.Semicolon t ≡ false → over limit (t ∷ ts) ≡ over limit ts
unfolding over
over_other limit t ts h k = rw (h, k) refl

semicolon_no_sign : (t : Lexeme) → is class.Semicolon t ≡ true → is_sign t ≡ false
semicolon_no_sign t h = apart class.Semicolon (class.Plus ∷ class.Star ∷ []) refl t h

nonzero : (t : Lexeme) (ts : List Lexeme) → length (t ∷ ts) ≡ 0 → ⊥
nonzero t ts h = absurd (omega (arith, h))

-- what is over the limit nowhere is so at its front
pub over_front : (limit : ℕ) (a b : List Lexeme) → over limit (a ++ b) ≡ 0 → over limit a ≡ 0
over_front limit [] b h = over_nothing limit
over_front limit (t ∷ a) b h =
    elim (cases_bool (is_sign t)) [
      | inl s ↦ signed (λ n. over_front n a b) limit s h
      | inr s ↦ elim (cases_bool (is class.Semicolon t)) [
        | inl e ↦ over_end limit t a s e
        | inr e ↦ over_other limit t a s e ∙ over_front limit a b (sym (over_other limit t (a ++ b) s e) ∙ h)
      ]
    ]
  where
    signed : ((n : ℕ) → over n (a ++ b) ≡ 0 → over n a ≡ 0) → (limit : ℕ) → is_sign t ≡ true → over limit (t ∷ (a ++ b)) ≡ 0 → over limit (t ∷ a) ≡ 0
    signed before zero s h = absurd (nonzero t (a ++ b) (sym (over_past t (a ++ b) s) ∙ h))
    signed before (suc n) s h = over_sign n t a s ∙ before n (sym (over_sign n t (a ++ b) s) ∙ h)

-- and stays so with fillers after it
pub over_filled : (limit : ℕ) (a b : List Lexeme) → over limit a ≡ 0 → IsTrue (list_all is_filler b) → over limit (a ++ b) ≡ 0
over_filled limit [] [] h k = over_nothing limit
over_filled limit [] (t ∷ b) h k =
    let s = filler_quiet t (first (is_filler t) _ k) in
    elim (cases_bool (is class.Semicolon t)) [
      | inl e ↦ over_end limit t b s e
      | inr e ↦ over_other limit t b s e ∙ over_filled limit [] b (over_nothing limit) (second (is_filler t) _ k)
    ]
over_filled limit (t ∷ a) b h k =
    elim (cases_bool (is_sign t)) [
      | inl s ↦ signed (λ n z. over_filled n a b z k) limit s h
      | inr s ↦ elim (cases_bool (is class.Semicolon t)) [
        | inl e ↦ over_end limit t (a ++ b) s e
        | inr e ↦ over_other limit t (a ++ b) s e ∙ over_filled limit a b (sym (over_other limit t a s e) ∙ h) k
      ]
    ]
  where
    signed : ((n : ℕ) → over n a ≡ 0 → over n (a ++ b) ≡ 0) → (limit : ℕ) → is_sign t ≡ true → over limit (t ∷ a) ≡ 0 → over limit (t ∷ (a ++ b)) ≡ 0
    signed before zero s h = absurd (nonzero t a (sym (over_past t a s) ∙ h))
    signed before (suc n) s h = over_sign n t (a ++ b) s ∙ before n (sym (over_sign n t a s) ∙ h)

pub few_over : (limit : ℕ) (body more : List Lexeme) → IsTrue (list_all is_plain body) → over limit (body ++ more) ≡ 0 → signs body ≤ limit
few_over limit [] more k h = omega arith
few_over limit (t ∷ body) more k h =
    let e : is class.Semicolon t ≡ false = not_true (is class.Semicolon t) (first (is_plain t) _ k) in
    elim (cases_bool (is_sign t)) [
      | inl s ↦ rw s (signed (λ n. few_over n body more (second (is_plain t) _ k)) limit s h)
      | inr s ↦ rw s (few_over limit body more (second (is_plain t) _ k) (sym (over_other limit t (body ++ more) s e) ∙ h))
    ]
  where
    signed : ((n : ℕ) → over n (body ++ more) ≡ 0 → signs body ≤ n) → (limit : ℕ) → is_sign t ≡ true → over limit (t ∷ (body ++ more)) ≡ 0 → suc (signs body) ≤ limit
    signed before zero s h = absurd (nonzero t (body ++ more) (sym (over_past t (body ++ more) s) ∙ h))
    signed before (suc n) s h = let l = before n (sym (over_sign n t (body ++ more) s) ∙ h) in omega (arith, l)

over_few : (limit : ℕ) (body : List Lexeme) (stop : Lexeme) (more : List Lexeme) → IsTrue (list_all is_plain body) → is class.Semicolon stop ≡ true → signs body ≤ limit → over limit (body ++ stop ∷ more) ≡ 0
over_few limit [] stop more k e l = over_end limit stop more (semicolon_no_sign stop e) e
over_few limit (t ∷ body) stop more k e l =
    elim (cases_bool (is_sign t)) [
      | inl s ↦ signed (λ n. over_few n body stop more (second (is_plain t) _ k) e) limit s (rw s at l)
      | inr s ↦ over_other limit t (body ++ stop ∷ more) s (not_true (is class.Semicolon t) (first (is_plain t) _ k)) ∙ over_few limit body stop more (second (is_plain t) _ k) e (rw s at l)
    ]
  where
    signed : ((n : ℕ) → signs body ≤ n → over n (body ++ stop ∷ more) ≡ 0) → (limit : ℕ) → is_sign t ≡ true → suc (signs body) ≤ limit → over limit (t ∷ (body ++ stop ∷ more)) ≡ 0
    signed before zero s l = absurd (omega (arith, l))
    signed before (suc n) s l = over_sign n t (body ++ stop ∷ more) s ∙ before n (omega (arith, l))

signs_end : (body : List Lexeme) (stop : Lexeme) → is class.Semicolon stop ≡ true → signs (body ++ stop ∷ []) ≡ signs body
signs_end [] stop e = rw (semicolon_no_sign stop e) refl
signs_end (t ∷ body) stop e = elim (cases_bool (is_sign t)) [ inl s ↦ rw s (ap suc (signs_end body stop e)) | inr s ↦ rw s (signs_end body stop e) ]

-- a statement within the limit
pub few_statement : (limit : ℕ) (ts more : List Lexeme) → IsStatement ts → over limit (ts ++ more) ≡ 0 → signs ts ≤ limit
few_statement limit ts more st h =
    let l = few_over limit st.body (st.stop ∷ more) st.plain (ap (over limit) (sym (append_assoc st.body (st.stop ∷ []) more)) ∙ ap (λ z. over limit (z ++ more)) (sym st.parts) ∙ h) in
    subst (λ z. z ≤ limit) (sym (ap signs st.parts ∙ signs_end st.body st.stop st.ends)) l

pub statement_few : (limit : ℕ) (ts more : List Lexeme) → IsStatement ts → signs ts ≤ limit → over limit (ts ++ more) ≡ 0
statement_few limit ts more st l =
    ap (λ z. over limit (z ++ more)) st.parts ∙ ap (over limit) (append_assoc st.body (st.stop ∷ []) more)
    ∙ over_few limit st.body st.stop more st.plain st.ends (subst (λ z. z ≤ limit) (ap signs st.parts ∙ signs_end st.body st.stop st.ends) l)

-- ---- the tokens before the first sign past the limit

record CutAt (limit : ℕ) (ts : List Lexeme) : Type 0 where
  front : List Lexeme
  sign : Lexeme
  rest : List Lexeme
  parts : ts ≡ front ++ sign ∷ rest
  plain : IsTrue (list_all is_plain front)
  few : over limit front ≡ 0
  many : (more : List Lexeme) → over limit (front ++ sign ∷ more) ≡ length (sign ∷ more)

cut_later : (limit next : ℕ) (t : Lexeme) (ts : List Lexeme) → is class.Semicolon t ≡ false → ((us : List Lexeme) → over limit (t ∷ us) ≡ over next us) → CutAt next ts → CutAt limit (t ∷ ts)
cut_later limit next t ts e f k = record {
  front = t ∷ k.front;
  sign = k.sign;
  rest = k.rest;
  parts = ap (λ (z : List Lexeme). t ∷ z) k.parts;
  plain = both (is_plain t) _ (true_not (is class.Semicolon t) e) k.plain;
  few = f k.front ∙ k.few;
  many = λ more. f (k.front ++ k.sign ∷ more) ∙ k.many more;
}

cut : (limit : ℕ) (ts : List Lexeme) (n : ℕ) → over limit ts ≡ suc n → CutAt limit ts
cut limit [] n h = absurd (let z = sym (over_nothing limit) ∙ h in omega (arith, z))
cut limit (t ∷ ts) n h =
    elim (cases_bool (is_sign t)) [
      | inl s ↦ signed (λ m. cut m ts n) limit s h
      | inr s ↦ elim (cases_bool (is class.Semicolon t)) [
        | inl e ↦ absurd (let z = sym (over_end limit t ts s e) ∙ h in omega (arith, z))
        | inr e ↦ cut_later limit limit t ts e (λ us. over_other limit t us s e) (cut limit ts n (sym (over_other limit t ts s e) ∙ h))
      ]
    ]
  where
    no_end : is_sign t ≡ true → is class.Semicolon t ≡ false
    no_end s = elim (cases_bool (is class.Semicolon t)) [ inl e ↦ absurd (let z : true ≡ false = sym s ∙ semicolon_no_sign t e in cc) | inr e ↦ e ]

    signed : ((m : ℕ) → over m ts ≡ suc n → CutAt m ts) → (limit : ℕ) → is_sign t ≡ true → over limit (t ∷ ts) ≡ suc n → CutAt limit (t ∷ ts)
    signed before zero s h = record { front = []; sign = t; rest = ts; parts = refl; plain = refl; few = over_nothing 0; many = λ more. over_past t more s }
    signed before (suc m) s h = cut_later (suc m) m t ts (no_end s) (λ us. over_sign m t us s) (before m (sym (over_sign m t ts s) ∙ h))

-- the same, after a front without one
record CutAfter (limit : ℕ) (front more : List Lexeme) : Type 0 where
  middle : List Lexeme
  sign : Lexeme
  rest : List Lexeme
  parts : more ≡ middle ++ sign ∷ rest
  left : over limit (front ++ more) ≡ length (sign ∷ rest)

cut_after : (limit : ℕ) (front more : List Lexeme) (m : ℕ) → over limit (front ++ more) ≡ suc m → over limit front ≡ 0 → CutAfter limit front more
cut_after limit [] more m h z = let k = cut limit more m h in record { middle = k.front; sign = k.sign; rest = k.rest; parts = k.parts; left = ap (over limit) k.parts ∙ k.many k.rest }
cut_after limit (t ∷ front) more m h z =
    elim (cases_bool (is_sign t)) [
      | inl s ↦ signed (λ n. cut_after n front more m) limit s h z
      | inr s ↦ elim (cases_bool (is class.Semicolon t)) [
        | inl e ↦ absurd (let y = sym (over_end limit t (front ++ more) s e) ∙ h in omega (arith, y))
        | inr e ↦ later limit limit (λ us. over_other limit t us s e) (cut_after limit front more m (sym (over_other limit t (front ++ more) s e) ∙ h) (sym (over_other limit t front s e) ∙ z))
      ]
    ]
  where
    later : (limit next : ℕ) → ((us : List Lexeme) → over limit (t ∷ us) ≡ over next us) → CutAfter next front more → CutAfter limit (t ∷ front) more
    later limit next f k = record { middle = k.middle; sign = k.sign; rest = k.rest; parts = k.parts; left = f (front ++ more) ∙ k.left }

    signed : ((n : ℕ) → over n (front ++ more) ≡ suc m → over n front ≡ 0 → CutAfter n front more) → (limit : ℕ) → is_sign t ≡ true → over limit (t ∷ (front ++ more)) ≡ suc m → over limit (t ∷ front) ≡ 0 → CutAfter limit (t ∷ front) more
    signed before zero s h z = absurd (nonzero t front (sym (over_past t front s) ∙ z))
    signed before (suc n) s h z = later (suc n) n (λ us. over_sign n t us s) (before n (sym (over_sign n t (front ++ more) s) ∙ h) (sym (over_sign n t front s) ∙ z))

-- ---- reading

few_whole : {A : Type 0} (limit : ℕ) (p : List Lexeme → Result (A × List Lexeme) ℕ) (ts : List Lexeme) → over limit ts ≡ 0 → few_at limit p ts ≡ p ts
few_whole limit p ts h = rw h refl

few_cut : {A : Type 0} (limit : ℕ) (p : List Lexeme → Result (A × List Lexeme) ℕ) (ts front : List Lexeme) (sign : Lexeme) (rest : List Lexeme) → ts ≡ front ++ sign ∷ rest → over limit ts ≡ length (sign ∷ rest)
    → few_at limit p ts ≡ cut_at (length (sign ∷ rest)) (p front)
few_cut limit p ts front sign rest e h =
    let l : length ts - length (sign ∷ rest) ≡ length front = omega (arith, ap length e, length-append front (sign ∷ rest)) in
    rw (h, l) (ap (λ z. cut_at (length (sign ∷ rest)) (p z)) (ap (take (length front)) e ∙ take_at front (sign ∷ rest) (length front) refl))

abbrev err : {A : Type 0} → ℕ → Result A ℕ
err n = Err n

err_is : {A : Type 0} (a b : ℕ) → err {A = A} a ≡ Err b → a ≡ b
err_is a b q = cc

none_more : (n : ℕ) → 0 + n ≡ n
none_more n = omega arith

-- where a reader stops at the end of these tokens, it stops there without more of them
stuck_end : {A : Type 0} (W : List Lexeme → A → Type 0) (p : List Lexeme → Result (A × List Lexeme) ℕ) → Part none W p → (front : List Lexeme) (u : Lexeme) (us : List Lexeme)
    → p (front ++ u ∷ us) ≡ Err (length (u ∷ us)) → p front ≡ Err 0
stuck_end {A = A} W p g front u us e = told (p front) refl
  where
    none_left : (n : ℕ) (rest : List Lexeme) → n ≡ length rest
        → ((v : Lexeme) (vs : List Lexeme) → rest ≡ v ∷ vs → p (front ++ u ∷ us) ≡ Err (length ((v ∷ vs) ++ u ∷ us)))
        → n ≡ 0
    none_left n [] l same = l
    none_left n (v ∷ vs) l same = absurd (let z : length (u ∷ us) ≡ length ((v ∷ vs) ++ u ∷ us) = err_is {A = A × List Lexeme} _ _ (sym e ∙ same v vs refl) in omega (arith, z, length-append vs (u ∷ us)))

    -- with more tokens, the reader takes the same front and leaves the rest with them
    longer : (before rest : List Lexeme) → front ≡ before ++ rest → p (front ++ u ∷ us) ≡ p (before ++ (rest ++ u ∷ us))
    longer before rest q = ap (λ z. p (z ++ u ∷ us)) q ∙ ap p (append_assoc before rest (u ∷ us))

    told : (r : Result (A × List Lexeme) ℕ) → p front ≡ r → p front ≡ Err 0
    told (Ok (x, [])) k =
        let t = g.reads.took front x [] k in
        let w : W front x = subst (λ z. W z x) (sym (t.parts ∙ append-nil t.front)) t.written in
        absurd (none_errs (x, u ∷ us) (sym (g.reads.again front x (u ∷ us) w (stops_none (u ∷ us))) ∙ e))
    told (Ok (x, v ∷ vs)) k =
        let t = g.reads.took front x (v ∷ vs) k in
        absurd (none_errs (x, (v ∷ vs) ++ u ∷ us) (sym (longer t.front (v ∷ vs) t.parts ∙ t.same ((v ∷ vs) ++ u ∷ us) refl) ∙ e))
    told (Err n) k =
        let t = g.reads.stuck front n k in
        k ∙ ap (λ z. err z) (none_left n t.rest t.left (λ v vs q. longer t.front (v ∷ vs) (t.parts ∙ ap (λ (z : List Lexeme). t.front ++ z) q) ∙ t.same ((v ∷ vs) ++ u ∷ us) (subst (λ z. SameHead z ((v ∷ vs) ++ u ∷ us)) (sym q) refl)))

-- the reader's stop is the same with the limit, where no sign before it is past the limit
few_same : {A : Type 0} (limit : ℕ) (W : List Lexeme → A → Type 0) (p : List Lexeme → Result (A × List Lexeme) ℕ) → Part none W p → (front rest more : List Lexeme) → over limit front ≡ 0
    → ((us : List Lexeme) → SameHead rest us → p (front ++ us) ≡ Err (length us)) → SameHead rest more → few_at limit p (front ++ more) ≡ Err (length more)
few_same {A = A} limit W p g front rest more z same h = told (over limit (front ++ more)) refl
  where
    inside : (middle : List Lexeme) (sign : Lexeme) (after : List Lexeme) → more ≡ middle ++ sign ∷ after → over limit (front ++ more) ≡ length (sign ∷ after) → p (front ++ middle) ≡ Err (length middle) → few_at limit p (front ++ more) ≡ Err (length more)
    inside middle sign after e l q =
        few_cut limit p (front ++ more) (front ++ middle) sign after (ap (λ (z : List Lexeme). front ++ z) e ∙ sym (append_assoc front middle (sign ∷ after))) l
        ∙ ap (λ r. cut_at (length (sign ∷ after)) r) q ∙ ap (λ n. err n) (sym (length-append middle (sign ∷ after)) ∙ sym (ap length e))

    head : (middle : List Lexeme) (u : Lexeme) (us after : List Lexeme) → middle ≡ u ∷ us → more ≡ middle ++ after → SameHead rest more → SameHead rest middle
    head middle u us after e q k = subst (λ z. SameHead rest z) (sym e) (only rest (subst (λ z. SameHead rest z) (q ∙ ap (λ (z : List Lexeme). z ++ after) e) k))
      where
        only : (r : List Lexeme) → SameHead r (u ∷ (us ++ after)) → SameHead r (u ∷ us)
        only [] k = k
        only (t ∷ r) k = k

    by : (middle : List Lexeme) (sign : Lexeme) (after : List Lexeme) → more ≡ middle ++ sign ∷ after → over limit (front ++ more) ≡ length (sign ∷ after) → few_at limit p (front ++ more) ≡ Err (length more)
    by [] sign after e l = inside [] sign after e l (ap p (append-nil front) ∙ stuck_end W p g front sign after (ap (λ z. p (front ++ z)) (sym e) ∙ same more h ∙ ap (λ z. err (length z)) e))
    by (u ∷ us) sign after e l = inside (u ∷ us) sign after e l (same (u ∷ us) (head (u ∷ us) u us (sign ∷ after) refl e h))

    told : (n : ℕ) → over limit (front ++ more) ≡ n → few_at limit p (front ++ more) ≡ Err (length more)
    told zero e = few_whole limit p (front ++ more) e ∙ same more h
    told (suc n) e = let k = cut_after limit front more n e z in by k.middle k.sign k.rest k.parts k.left

few_opens : {A : Type 0} (limit : ℕ) (W : List Lexeme → A → Type 0) → AreStatements W → (front : List Lexeme) → over limit front ≡ 0 → Opens W front → Opens (Few limit W) front
few_opens limit W st front z o =
    let h : over limit ((front ++ o.tail) ++ []) ≡ 0 = ap (over limit) (append-nil (front ++ o.tail)) ∙ over_filled limit front o.tail z o.filled in
    record { tail = o.tail; value = o.value; filled = o.filled; written = record { written = o.written; few = few_statement limit (front ++ o.tail) [] (st (front ++ o.tail) o.value o.written) h } }

few_stuck : {A : Type 0} (limit : ℕ) (W : List Lexeme → A → Type 0) (p : List Lexeme → Result (A × List Lexeme) ℕ) → Part none W p → AreStatements W
    → (ts front rest : List Lexeme) (n : ℕ) → ts ≡ front ++ rest → n ≡ length rest → over limit front ≡ 0 → Opens W front
    → ((more : List Lexeme) → SameHead rest more → few_at limit p (front ++ more) ≡ Err (length more)) → Stuck (Few limit W) (few_at limit p) ts n
few_stuck limit W p g st ts front rest n e l z o same = record { front = front; rest = rest; parts = e; left = l; opens = few_opens limit W st front z o; same = same }

cut_never : {A : Type 0} (n : ℕ) (r : Result A ℕ) (x : A) → cut_at n r ≡ Ok x → ⊥
cut_never n (Ok y) x e = cc
cut_never n (Err m) x e = cc

few_took : {A : Type 0} (limit : ℕ) (W : List Lexeme → A → Type 0) (p : List Lexeme → Result (A × List Lexeme) ℕ) → Part none W p → AreStatements W
    → (ts : List Lexeme) (x : A) (rest : List Lexeme) (n : ℕ) → over limit ts ≡ n → few_at limit p ts ≡ Ok (x, rest) → Took (Few limit W) (few_at limit p) ts x rest
few_took limit W p g st ts x rest zero h e =
    let t = g.reads.took ts x rest (sym (few_whole limit p ts h) ∙ e) in
    let s = st t.front x t.written in
    let few = few_statement limit t.front rest s (ap (over limit) (sym t.parts) ∙ h) in
    record { front = t.front; parts = t.parts; written = record { written = t.written; few = few }; same = λ more k. few_whole limit p (t.front ++ more) (statement_few limit t.front more s few) ∙ t.same more k }
few_took limit W p g st ts x rest (suc n) h e =
    let k = cut limit ts n h in
    absurd (cut_never (length (k.sign ∷ k.rest)) (p k.front) (x, rest) (sym (few_cut limit p ts k.front k.sign k.rest k.parts (ap (over limit) k.parts ∙ k.many k.rest)) ∙ e))

true_false : true ≡ false → ⊥
true_false h = cc

-- a front without `;` is no statement
no_statement : (front before rest : List Lexeme) → IsTrue (list_all is_plain front) → front ≡ before ++ rest → IsStatement before → ⊥
no_statement front before rest k e s =
    let plain : IsTrue (list_all is_plain (before ++ rest)) = subst (λ z. IsTrue (list_all is_plain z)) e k in
    let one : IsTrue (list_all is_plain (s.body ++ s.stop ∷ [])) = subst (λ z. IsTrue (list_all is_plain z)) s.parts (first _ _ (sym (list_all-append is_plain before rest) ∙ plain)) in
    let stop : IsTrue (is_plain s.stop) = first _ true (second _ _ (sym (list_all-append is_plain s.body (s.stop ∷ [])) ∙ one)) in
    true_false (sym s.ends ∙ not_true (is class.Semicolon s.stop) stop)

few_fails : {A : Type 0} (limit : ℕ) (W : List Lexeme → A → Type 0) (p : List Lexeme → Result (A × List Lexeme) ℕ) → Part none W p → AreStatements W
    → (ts : List Lexeme) (n m : ℕ) → over limit ts ≡ m → few_at limit p ts ≡ Err n → Stuck (Few limit W) (few_at limit p) ts n
few_fails limit W p g st ts n zero h e =
    let t = g.reads.stuck ts n (sym (few_whole limit p ts h) ∙ e) in
    let z = over_front limit t.front t.rest (ap (over limit) (sym t.parts) ∙ h) in
    few_stuck limit W p g st ts t.front t.rest n t.parts t.left z t.opens (λ more k. few_same limit W p g t.front t.rest more z t.same k)
few_fails {A = A} limit W p g st ts n (suc m) h e =
    let k = cut limit ts m h in
    past k (p k.front) refl (sym (few_cut limit p ts k.front k.sign k.rest k.parts (ap (over limit) k.parts ∙ k.many k.rest)) ∙ e)
  where
    at_sign : (k : CutAt limit ts) (front : List Lexeme) → k.front ≡ front → p k.front ≡ Err 0 → Opens W front → n ≡ length (k.sign ∷ k.rest) → Stuck (Few limit W) (few_at limit p) ts n
    at_sign k front q r o l =
        few_stuck limit W p g st ts k.front (k.sign ∷ k.rest) n k.parts l k.few (subst (Opens W) (sym q) o) same
      where
        same : (more : List Lexeme) → SameHead (k.sign ∷ k.rest) more → few_at limit p (k.front ++ more) ≡ Err (length more)
        same [] h = absurd h
        same (u ∷ us) h =
            subst (λ z. few_at limit p (k.front ++ z ∷ us) ≡ Err (length (z ∷ us))) h
            (few_cut limit p (k.front ++ k.sign ∷ us) k.front k.sign us refl (k.many us) ∙ ap (λ v. cut_at (length (k.sign ∷ us)) v) r ∙ ap (λ z. err z) (none_more (length (k.sign ∷ us))))

    inside : (k : CutAt limit ts) (j : ℕ) → p k.front ≡ Err j → n ≡ j + length (k.sign ∷ k.rest) → (front rest : List Lexeme) → k.front ≡ front ++ rest → j ≡ length rest → Opens W front
        → ((more : List Lexeme) → SameHead rest more → p (front ++ more) ≡ Err (length more)) → Stuck (Few limit W) (few_at limit p) ts n
    inside k j r l front [] q i o same = at_sign k front (q ∙ append-nil front) (r ∙ ap (λ z. err z) i) o (l ∙ ap (λ z. z + length (k.sign ∷ k.rest)) i ∙ none_more (length (k.sign ∷ k.rest)))
    inside k j r l front (t ∷ rest) q i o same =
        let z = over_front limit front (t ∷ rest) (ap (over limit) (sym q) ∙ k.few) in
        few_stuck limit W p g st ts front ((t ∷ rest) ++ k.sign ∷ k.rest) n
        (k.parts ∙ ap (λ (z : List Lexeme). z ++ k.sign ∷ k.rest) q ∙ append_assoc front (t ∷ rest) (k.sign ∷ k.rest))
        (l ∙ ap (λ z. z + length (k.sign ∷ k.rest)) i ∙ sym (length-append (t ∷ rest) (k.sign ∷ k.rest))) z o
        (λ more h. few_same limit W p g front (t ∷ rest) more z same (first_only (t ∷ rest) (k.sign ∷ k.rest) more t rest refl h))
      where
        first_only : (a b more : List Lexeme) (t : Lexeme) (ts : List Lexeme) → a ≡ t ∷ ts → SameHead (a ++ b) more → SameHead a more
        first_only a b more t ts e h = subst (λ z. SameHead z more) (sym e) (only more (subst (λ z. SameHead (z ++ b) more) e h))
          where
            only : (more : List Lexeme) → SameHead ((t ∷ ts) ++ b) more → SameHead (t ∷ ts) more
            only [] h = h
            only (u ∷ us) h = h

    past : (k : CutAt limit ts) (r : Result (A × List Lexeme) ℕ) → p k.front ≡ r → cut_at (length (k.sign ∷ k.rest)) r ≡ Err n → Stuck (Few limit W) (few_at limit p) ts n
    past k (Ok (x, rest)) r q = let t = g.reads.took k.front x rest r in absurd (no_statement k.front t.front rest k.plain t.parts (st t.front x t.written))
    past k (Err j) r q = let t = g.reads.stuck k.front j r in inside k j r (sym (err_is {A = A × List Lexeme} _ _ q)) t.front t.rest t.parts t.left t.opens t.same

pub few_part : {A : Type 0} (limit : ℕ) (W : List Lexeme → A → Type 0) (p : List Lexeme → Result (A × List Lexeme) ℕ) → AreStatements W → Part none W p → Part none (Few limit W) (few_at limit p)
few_part limit W p st g = record {
  reads = record {
    took = λ ts x rest e. few_took limit W p g st ts x rest (over limit ts) refl e;
    stuck = λ ts n e. few_fails limit W p g st ts n (over limit ts) refl e;
    again = λ ts x rest w k. few_whole limit p (ts ++ rest) (statement_few limit ts rest (st ts x w.written) w.few) ∙ g.reads.again ts x rest w.written k;
  };
  begin = few_opens limit W st [] (over_nothing limit) g.begin;
}
