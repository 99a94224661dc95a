-- That the turns take each part once.
use Rattle.std.proofs.Common.{refl, sym, ap, inl, inr, arith}
use Rattle.std.proofs.lemmas.Bool.{cases_eq}
use Rattle.std.specs.Prelude.{◌≡◌, ◌≢◌, ◌⊎◌, ℕ, zero, suc, ◌+◌, ◌<◌, ◌≤◌, Bool, true, false, not, cond, ◌==◌, List, [], ◌∷◌, length, get_or, filter}
use Rattle.cut_plan.specs.OrderOf.{IsOrderOf}
use Rattle.cut_plan.specs.TurnLaws.{next_member, is_other, is_itself}
use Rattle.design_model.specs.Evaluation.{next, without, turns, numbers_from, evaluation_order, part_reads}
use Rattle.design_model.specs.Wiring.{Wiring}
use Rattle.order_core.specs.MemberLaws.{mem-filter, filter-mem}
use Rattle.order_core.specs.Members.{IsMember}
use Rattle.design_model.specs.EvaluationLaws.{many_numbers}

-- No item of the list occurs twice.
abbrev pub Once : List ℕ → Type 0
Once [] = Unit {0}
Once (x ∷ xs) = (IsMember x xs → ⊥) × Once xs

pub once_filter : (test : ℕ → Bool) (xs : List ℕ) → Once xs → Once (filter test xs)
once_filter test [] h = tt
once_filter test (x ∷ xs) h = at (test x) (once_filter test xs h.1)
  where
    at : (b : Bool) → Once (filter test xs) → Once (cond b (x ∷ filter test xs) (filter test xs))
    at true ih = ((λ m. h.0 (mem-filter test xs x m).0), ih)
    at false ih = ih

pub not_without : (p : ℕ) (xs : List ℕ) → IsMember p (without p xs) → ⊥
not_without p xs m = let no = (mem-filter (λ q. not (q == p)) xs p m).1 in let yes = is_itself p in cc

pub still_without : (p q : ℕ) (xs : List ℕ) → q ≢ p → IsMember q xs → IsMember q (without p xs)
still_without p q xs h m = filter-mem (λ q. not (q == p)) xs q m (is_other q p h)

without_absent : (p : ℕ) (xs : List ℕ) → (IsMember p xs → ⊥) → without p xs ≡ xs
without_absent p [] h = refl
without_absent p (x ∷ xs) h = rw (is_other x p (λ e. h (inl (sym e)))) (ap (λ ys. x ∷ ys) (without_absent p xs (λ m. h (inr m))))

pub without_length : (p : ℕ) (xs : List ℕ) → Once xs → IsMember p xs → length (without p xs) + 1 ≡ length xs
without_length p [] h m = absurd m
without_length p (x ∷ xs) h m = at (cases_eq x p) m (without_length p xs h.1)
  where
    at : (x ≡ p) ⊎ (x ≡ p → ⊥) → IsMember p (x ∷ xs) → (IsMember p xs → length (without p xs) + 1 ≡ length xs) → length (without p (x ∷ xs)) + 1 ≡ length (x ∷ xs)
    at (inl e) k ih =
        let itself : not (x == p) ≡ false = rw e (is_itself p) in
        let absent : IsMember p xs → ⊥ = λ j. h.0 (rw e j) in
        rw (itself, without_absent p xs absent) (omega arith)
    at (inr e) (inl f) ih = absurd (e (sym f))
    at (inr e) (inr k) ih = rw (is_other x p e) (omega (arith, ih k))

module _ (r : ℕ → ℕ → Bool) where
  pub turns_length : (n : ℕ) (left : List ℕ) → length (turns r n left) ≡ n
  turns_length zero left = refl
  turns_length (suc n) left = ap suc (turns_length n (without (next r left) left))

  one_less : (n : ℕ) (left : List ℕ) → suc n ≤ length left → Once left → n ≤ length (without (next r left) left)
  one_less n left h k = omega (arith, h, without_length (next r left) left k (next_member r left (omega (arith, h))))

  pub turns_within : (n : ℕ) (left : List ℕ) (p : ℕ) → n ≤ length left → Once left → IsMember p (turns r n left) → IsMember p left
  turns_within zero left p h k m = absurd m
  turns_within (suc n) left p h k (inl e) = rw e (next_member r left (omega (arith, h)))
  turns_within (suc n) left p h k (inr m) =
      (mem-filter (λ q. not (q == next r left)) left p
      (turns_within n (without (next r left) left) p (one_less n left h k) (once_filter (λ q. not (q == next r left)) left k) m)).0

  pub turns_once : (n : ℕ) (left : List ℕ) → n ≤ length left → Once left → Once (turns r n left)
  turns_once zero left h k = tt
  turns_once (suc n) left h k =
      let fewer = one_less n left h k in
      let once = once_filter (λ q. not (q == next r left)) left k in
      ((λ m. not_without (next r left) left (turns_within n (without (next r left) left) (next r left) fewer once m)), turns_once n (without (next r left) left) fewer once)

  pub turns_all : (n : ℕ) (left : List ℕ) (p : ℕ) → n ≡ length left → Once left → IsMember p left → IsMember p (turns r n left)
  turns_all zero [] p h k m = absurd m
  turns_all zero (x ∷ left) p h k m = absurd (omega (arith, h))
  turns_all (suc n) left p h k m =
      let fewer : n ≡ length (without (next r left) left) = omega (arith, h, without_length (next r left) left k (next_member r left (omega (arith, h)))) in
      at (cases_eq p (next r left)) (turns_all n (without (next r left) left) p fewer (once_filter (λ q. not (q == next r left)) left k))
    where
      at : (p ≡ next r left) ⊎ (p ≡ next r left → ⊥) → (IsMember p (without (next r left) left) → IsMember p (turns r n (without (next r left) left))) → IsMember p (turns r (suc n) left)
      at (inl e) ih = inl e
      at (inr e) ih = inr (ih (still_without (next r left) p left e m))

pub number_within : (start n p : ℕ) → IsMember p (numbers_from start n) → (start ≤ p) × (p < start + n)
number_within start zero p m = absurd m
number_within start (suc n) p (inl e) = (omega arith, omega arith)
number_within start (suc n) p (inr m) = let k = number_within (start + 1) n p m in (omega (arith, k), omega (arith, k))

pub number_is : (start n p : ℕ) → start ≤ p → p < start + n → IsMember p (numbers_from start n)
number_is start zero p h k = absurd (omega arith)
number_is start (suc n) p h k = at (cases_eq p start) (λ more. number_is (start + 1) n p more (omega arith))
  where
    apart : (a b : ℕ) → a ≤ b → (b ≡ a → ⊥) → a + 1 ≤ b
    apart a b h e = grind (arith, h, e)

    at : (p ≡ start) ⊎ (p ≡ start → ⊥) → (start + 1 ≤ p → IsMember p (numbers_from (start + 1) n)) → IsMember p (numbers_from start (suc n))
    at (inl e) ih = inl e
    at (inr e) ih = inr (ih (apart start p h e))

pub numbers_once : (start n : ℕ) → Once (numbers_from start n)
numbers_once start zero = tt
numbers_once start (suc n) = ((λ m. let k = (number_within (start + 1) n start m).0 in omega (arith, k)), numbers_once (start + 1) n)

pub item_at : (xs : List ℕ) (i d : ℕ) → i < length xs → IsMember (get_or xs i d) xs
item_at [] i d h = absurd (omega arith)
item_at (x ∷ xs) zero d h = inl refl
item_at (x ∷ xs) (suc i) d h = inr (item_at xs i d (omega arith))

once_at : (xs : List ℕ) (i j : ℕ) → Once xs → i < j → j < length xs → get_or xs i 0 ≢ get_or xs j 0
once_at [] i j h k l e = omega arith
once_at (x ∷ xs) i zero h k l e = omega arith
once_at (x ∷ xs) zero (suc j) h k l e = h.0 (rw e (item_at xs j 0 (omega arith)))
once_at (x ∷ xs) (suc i) (suc j) h k l e = once_at xs i j h.1 (omega arith) (omega arith) e

pub turns_order : (r : ℕ → ℕ → Bool) (n : ℕ) → IsOrderOf n (turns r n (numbers_from 0 n))
turns_order r n =
    let many = many_numbers 0 n in
    let once = numbers_once 0 n in
    record {
      size = turns_length r n (numbers_from 0 n);
      below = λ p m. omega (arith, number_within 0 n p (turns_within r n (numbers_from 0 n) p (omega (arith, many)) once m));
      all = λ p h. turns_all r n (numbers_from 0 n) p (sym many) once (number_is 0 n p (omega arith) (omega arith));
      once = λ i j h k. once_at (turns r n (numbers_from 0 n)) i j (turns_once r n (numbers_from 0 n) (omega (arith, many)) once) h k;
    }

-- The order of evaluation of a net takes each of its parts once.
pub order_is : (net : Wiring) → IsOrderOf (length net.provided) (evaluation_order net)
order_is net = turns_order (part_reads net.constraints) (length net.provided)
