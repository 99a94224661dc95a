-- The numbers below a bound that pass a test are exactly those, each once, and rise.
use Rattle.std.proofs.Common.{◌≡◌, ◌<◌, ◌≤◌, ◌+◌, ℕ, zero, suc, Bool, true, false, IsTrue, List, [], ◌∷◌, ◌++◌, cond, refl, subst, arith, ◌⊎◌, inl, inr}
use Rattle.std.proofs.lemmas.Bool.{le-leb, cases_lt}
use Rattle.std.specs.Prelude.{nat_le}
use Rattle.order_core.specs.MemberLaws.{first, second, both, mem-left, mem-right, mem-split}
use Rattle.order_core.specs.Members.{IsMember}
use Rattle.order_core.specs.NumbersBelow.{numbers_below}
use Rattle.order_core.specs.Upper.{rise_from}

rise_push : (k n : ℕ) (xs : List ℕ) → IsTrue (rise_from k xs) → ((x : ℕ) → IsMember x xs → x < n) → k ≤ n → IsTrue (rise_from k (xs ++ n ∷ []))
rise_push k n [] h below l = both _ _ (le-leb k n l) refl
rise_push k n (x ∷ xs) h below l = both _ _ (first _ _ h) (rise_push (x + 1) n xs (second (nat_le k x) _ h) (λ y m. below y (inr m)) (let at = below x (inl refl) in omega arith))

module _ (passes : ℕ → Bool) where
  pub number_passes : (n x : ℕ) → IsMember x (numbers_below n passes) → (x < n) × IsTrue (passes x)
  number_passes zero x m = absurd m
  number_passes (suc n) x m = go (passes n) refl (number_passes n x) m
    where
      go : (t : Bool) → passes n ≡ t → (IsMember x (numbers_below n passes) → (x < n) × IsTrue (passes x)) → IsMember x (cond t (numbers_below n passes ++ n ∷ []) (numbers_below n passes))
          → (x < suc n) × IsTrue (passes x)
      go true e ih m = last (mem-split (numbers_below n passes) (n ∷ []) x m)
        where
          last : IsMember x (numbers_below n passes) ⊎ IsMember x (n ∷ []) → (x < suc n) × IsTrue (passes x)
          last (inl k) = let r = ih k in (omega (arith, r.0), r.1)
          last (inr (inl f)) = let same : n ≡ x = cc in (omega arith, subst (λ z. IsTrue (passes z)) same e)
          last (inr (inr k)) = absurd k
      go false e ih m = let r = ih m in (omega (arith, r.0), r.1)

  pub passing_number : (n x : ℕ) → x < n → IsTrue (passes x) → IsMember x (numbers_below n passes)
  passing_number zero x l h = absurd (omega arith)
  passing_number (suc n) x l h = go (passes n) refl (passing_number n x) (cases_lt x n)
    where
      go : (t : Bool) → passes n ≡ t → (x < n → IsTrue (passes x) → IsMember x (numbers_below n passes)) → (x < n) ⊎ (n ≤ x)
          → IsMember x (cond t (numbers_below n passes ++ n ∷ []) (numbers_below n passes))
      go true e ih (inl k) = mem-left (numbers_below n passes) (n ∷ []) x (ih k h)
      go true e ih (inr k) = mem-right (numbers_below n passes) (n ∷ []) x (inl (omega arith))
      go false e ih (inl k) = ih k h
      go false e ih (inr k) =
          let same : x ≡ n = omega arith in
          let yes : passes n ≡ true = subst (λ z. IsTrue (passes z)) same h in absurd (cc)

  pub numbers_rise : (n : ℕ) → IsTrue (rise_from 0 (numbers_below n passes))
  numbers_rise zero = refl
  numbers_rise (suc n) = go (passes n) (numbers_rise n)
    where
      go : (t : Bool) → IsTrue (rise_from 0 (numbers_below n passes)) → IsTrue (rise_from 0 (cond t (numbers_below n passes ++ n ∷ []) (numbers_below n passes)))
      go true h = rise_push 0 n (numbers_below n passes) h (λ x m. (number_passes n x m).0) (omega arith)
      go false h = h
