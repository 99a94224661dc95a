-- How the parts left change from turn to turn.
use Rattle.std.proofs.Common.{refl, sym, ap, inl, inr, arith, add-one}
use Rattle.std.proofs.Math.Seq.{drop-cons}
use Rattle.std.proofs.lemmas.Bool.{eqb-true, eq-eqb}
use Rattle.std.specs.List.{list_any}
use Rattle.std.specs.Prelude.{◌≡◌, ℕ, zero, suc, ◌+◌, ◌-◌, ◌<◌, Bool, true, false, not, cond, ◌&&◌, ◌==◌, IsTrue, List, [], ◌∷◌, length, drop, get_or, set, filter, replicate}
use Rattle.cut_plan.specs.TurnLaws.{is_itself, is_other, next_member}
use Rattle.cut_plan.specs.Turns.{table_reads, left_from, is_left, waits}
use Rattle.cut_plan.specs.declared.reads.Signal.{Signal}
use Rattle.design_model.specs.Evaluation.{is_ready, first_or, next, without, turns, numbers_from}
use Rattle.order_core.specs.MemberLaws.{first, second, both, any_elim, any_intro}
use Rattle.order_core.specs.Members.{IsMember}

pub same_bool : (a b : Bool) → (IsTrue a → IsTrue b) → (IsTrue b → IsTrue a) → a ≡ b
same_bool true b h k = sym (h refl)
same_bool false true h k = k refl
same_bool false false h k = refl

pub left_cons : (taken : List Bool) (p : ℕ) → p < length taken
    → left_from p (drop p taken) ≡ cond (is_left taken p) (p ∷ left_from (p + 1) (drop (p + 1) taken)) (left_from (p + 1) (drop (p + 1) taken))
left_cons taken p h = rw (add-one, drop-cons taken p true h) (at (get_or taken p true) (drop (suc p) taken))
  where
    at : (b : Bool) (rest : List Bool) → left_from p (b ∷ rest) ≡ cond (not b) (p ∷ left_from (suc p) rest) (left_from (suc p) rest)
    at true rest = rw add-one refl
    at false rest = rw add-one refl

-- The part is not the next one of those left.
pub passes_on : (r : ℕ → Bool) (taken : List Bool) (p d : ℕ) → p < length taken → (is_left taken p && r p) ≡ false
    → first_or d (filter r (left_from p (drop p taken))) ≡ first_or d (filter r (left_from (p + 1) (drop (p + 1) taken)))
passes_on r taken p d h no_next = rw (left_cons taken p h) (at (is_left taken p) (r p) refl no_next)
  where
    rest : List ℕ
    rest = left_from (p + 1) (drop (p + 1) taken)

    at : (b ready : Bool) → r p ≡ ready → (b && ready) ≡ false → first_or d (filter r (cond b (p ∷ rest) rest)) ≡ first_or d (filter r rest)
    at true true e k = absurd (cc)
    at true false e k = rw e refl
    at false ready e k = refl

-- The part is the next one of those left.
pub stops : (r : ℕ → Bool) (taken : List Bool) (p d : ℕ) → p < length taken → (is_left taken p && r p) ≡ true → first_or d (filter r (left_from p (drop p taken))) ≡ p
stops r taken p d h is_next = rw (left_cons taken p h) (rw (first (is_left taken p) (r p) is_next) (at (r p) refl (second (is_left taken p) (r p) is_next)))
  where
    rest : List ℕ
    rest = left_from (p + 1) (drop (p + 1) taken)

    at : (ready : Bool) → r p ≡ ready → ready ≡ true → first_or d (filter r (p ∷ rest)) ≡ p
    at true e k = rw e refl
    at false e k = absurd (cc)

-- Of the parts left, those that are ready wait for nothing that they read.
pub member_is_left : (start q : ℕ) (taken : List Bool) → IsMember q (left_from start taken) → (k : ℕ) × (q ≡ start + k) × IsTrue (is_left taken k)
member_is_left start q [] m = absurd m
member_is_left start q (true ∷ taken) m = let r = member_is_left (start + 1) q taken m in (suc r.0, omega arith, r.2)
member_is_left start q (false ∷ taken) (inl e) = (0, omega arith, refl)
member_is_left start q (false ∷ taken) (inr m) = let r = member_is_left (start + 1) q taken m in (suc r.0, omega arith, r.2)

pub left_is_member : (start q k : ℕ) (taken : List Bool) → q ≡ start + k → IsTrue (is_left taken k) → IsMember q (left_from start taken)
left_is_member start q k [] e h = absurd (cc)
left_is_member start q zero (true ∷ taken) e h = absurd (cc)
left_is_member start q zero (false ∷ taken) e h = inl (omega arith)
left_is_member start q (suc k) (true ∷ taken) e h = left_is_member (start + 1) q k taken (omega arith) h
left_is_member start q (suc k) (false ∷ taken) e h = inr (left_is_member (start + 1) q k taken (omega arith) h)

pub ready_is : (table : List (List Signal)) (taken : List Bool) (p : ℕ) → is_ready (table_reads table) (left_from 0 taken) p ≡ not (list_any (waits taken p) (get_or table p []))
ready_is table taken p = ap not (same_bool _ _ there back)
  where
    signals : List Signal
    signals = get_or table p []

    blocks : ℕ → Bool
    blocks q = table_reads table p q && not (q == p)

    there : IsTrue (list_any blocks (left_from 0 taken)) → IsTrue (list_any (waits taken p) signals)
    there h =
        let found = any_elim blocks (left_from 0 taken) h in
        let q = found.0 in
        let reads = any_elim (λ (s : Signal). s.part == q) signals (first (table_reads table p q) _ found.2) in
        let same : reads.0.part ≡ q = eqb-true _ _ reads.2 in
        let is_in = member_is_left 0 q taken found.1 in
        let at : q ≡ is_in.0 = omega (arith, is_in.1) in
        any_intro (waits taken p) signals reads.0 reads.1
        (rw same (both (is_left taken q) _ (rw at is_in.2) (second (table_reads table p q) _ found.2)))

    back : IsTrue (list_any (waits taken p) signals) → IsTrue (list_any blocks (left_from 0 taken))
    back h =
        let found = any_elim (waits taken p) signals h in
        let q = found.0.part in
        any_intro blocks (left_from 0 taken) q (left_is_member 0 q q taken (omega arith) (first (is_left taken q) _ found.2))
        (both (table_reads table p q) _ (any_intro (λ (s : Signal). s.part == q) signals found.0 found.1 (eq-eqb q q refl)) (second (is_left taken q) _ found.2))

-- the parts left once one is taken
earlier : (k start : ℕ) (taken : List Bool) → k < start → without k (left_from start taken) ≡ left_from start taken
earlier k start [] h = refl
earlier k start (true ∷ taken) h = earlier k (start + 1) taken (omega arith)
earlier k start (false ∷ taken) h = rw (is_other start k (λ e. omega arith)) (ap (λ xs. start ∷ xs) (earlier k (start + 1) taken (omega arith)))

pub without_left : (start p k : ℕ) (taken : List Bool) → p ≡ start + k → without p (left_from start taken) ≡ left_from start (set taken k true)
without_left start p k [] e = refl
without_left start p zero (true ∷ taken) e = earlier p (start + 1) taken (omega arith)
without_left start p zero (false ∷ taken) e =
    let same : start ≡ p = omega arith in
    rw (same, is_itself p) (earlier p (p + 1) taken (omega arith))
without_left start p (suc k) (true ∷ taken) e = without_left (start + 1) p k taken (omega arith)
without_left start p (suc k) (false ∷ taken) e = rw (is_other start p (λ f. omega arith)) (ap (λ xs. start ∷ xs) (without_left (start + 1) p k taken (omega arith)))

pub one_fewer : (start k : ℕ) (taken : List Bool) → IsTrue (is_left taken k) → length (left_from start (set taken k true)) + 1 ≡ length (left_from start taken)
one_fewer start k [] h = absurd (cc)
one_fewer start zero (true ∷ taken) h = absurd (cc)
one_fewer start zero (false ∷ taken) h = omega arith
one_fewer start (suc k) (true ∷ taken) h = one_fewer (start + 1) k taken h
one_fewer start (suc k) (false ∷ taken) h = omega (arith, one_fewer (start + 1) k taken h)

pub left_within : (taken : List Bool) (k : ℕ) → IsTrue (is_left taken k) → k < length taken
left_within [] k h = absurd (cc)
left_within (b ∷ taken) zero h = omega arith
left_within (b ∷ taken) (suc k) h = omega (arith, left_within taken k h)

pub next_is_left : (r : ℕ → ℕ → Bool) (taken : List Bool) → 0 < length (left_from 0 taken) → IsTrue (is_left taken (next r (left_from 0 taken)))
next_is_left r taken h =
    let found = member_is_left 0 (next r (left_from 0 taken)) taken (next_member r (left_from 0 taken) h) in
    let at : next r (left_from 0 taken) ≡ found.0 = omega (arith, found.1) in
    rw at found.2

pub turns_step : (r : ℕ → ℕ → Bool) (n k : ℕ) (left : List ℕ) → k < n → turns r (n - k) left ≡ next r left ∷ turns r (n - (k + 1)) (without (next r left) left)
turns_step r n k left h = let e : n - k ≡ suc (n - (k + 1)) = omega arith in rw e refl

pub all_left : (start n : ℕ) → left_from start (replicate n false) ≡ numbers_from start n
all_left start zero = refl
all_left start (suc n) = ap (λ xs. start ∷ xs) (all_left (start + 1) n)
