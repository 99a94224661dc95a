-- How many numbers pass a test: more where it passes whatever another test does, and a number besides.
use Rattle.std.proofs.Common.{◌≡◌, ◌<◌, ◌≤◌, ◌+◌, ◌∙◌, ap, arith, refl, subst, ℕ, zero, suc, Bool, true, false, IsTrue, [], ◌∷◌, ◌++◌, ◌⊎◌, inl, inr, length, cond, length-append}
use Rattle.std.proofs.lemmas.Bool.{cases_lt}
use Rattle.order_core.specs.NumbersBelow.{numbers_below}

abbrev pub one_if : Bool → ℕ
one_if true = 1
one_if false = 0

one_more : (n : ℕ) (test : ℕ → Bool) → length (numbers_below (suc n) test) ≡ length (numbers_below n test) + one_if (test n)
one_more n test = go (test n)
  where
    go : (t : Bool) → length (cond t (numbers_below n test ++ n ∷ []) (numbers_below n test)) ≡ length (numbers_below n test) + one_if t
    go true = length-append (numbers_below n test) (n ∷ [])
    go false = omega arith

pub count_more : (n : ℕ) (test : ℕ → Bool) → length (numbers_below (n + 1) test) ≡ length (numbers_below n test) + one_if (test n)
count_more n test = let next : n + 1 ≡ suc n = omega arith in ap (λ (m : ℕ). length (numbers_below m test)) next ∙ one_more n test

at_most_one : (t : Bool) → one_if t ≤ 1
at_most_one true = omega arith
at_most_one false = omega arith

pub count_at_most : (n : ℕ) (test : ℕ → Bool) → length (numbers_below n test) ≤ n
count_at_most zero test = omega arith
count_at_most (suc n) test = omega (arith, one_more n test, at_most_one (test n), count_at_most n test)

module _ (p q : ℕ → Bool) where
  abbrev Part : ℕ → Type 0
  Part n = (x : ℕ) → x < n → IsTrue (p x) → IsTrue (q x)

  at_most : (s t : Bool) → (IsTrue s → IsTrue t) → one_if s ≤ one_if t
  at_most true true h = omega arith
  at_most true false h = let none : false ≡ true = h refl in absurd (cc)
  at_most false true h = omega arith
  at_most false false h = omega arith

  not_fewer : (n : ℕ) → Part n → length (numbers_below n p) ≤ length (numbers_below n q)
  not_fewer zero part = omega arith
  not_fewer (suc n) part =
      let so_far = not_fewer n (λ x l. part x (omega arith)) in
      let last = at_most (p n) (q n) (part n (omega arith)) in
      omega (arith, one_more n p, one_more n q, so_far, last)

  pub more_pass : (n w : ℕ) → Part n → w < n → p w ≡ false → IsTrue (q w) → length (numbers_below n p) < length (numbers_below n q)
  more_pass zero w part l out passes = absurd (omega arith)
  more_pass (suc n) w part l out passes = go (cases_lt w n) (λ k. more_pass n w (λ x m. part x (omega arith)) k out passes)
    where
      go : (w < n) ⊎ (n ≤ w) → (w < n → length (numbers_below n p) < length (numbers_below n q)) → length (numbers_below (suc n) p) < length (numbers_below (suc n) q)
      go (inl k) so_far =
          let last = at_most (p n) (q n) (part n (omega arith)) in
          omega (arith, one_more n p, one_more n q, so_far k, last)
      go (inr k) so_far =
          let same : w ≡ n = omega arith in
          let none : one_if (p n) ≡ 0 = ap one_if (subst (λ (z : ℕ). p z ≡ false) same out) in
          let one : one_if (q n) ≡ 1 = ap one_if (subst (λ (z : ℕ). q z ≡ true) same passes) in
          omega (arith, one_more n p, one_more n q, not_fewer n (λ x m. part x (omega arith)), none, one)
