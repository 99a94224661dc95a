-- The numbers below a number, as a list.
use Rattle.std.specs.Prelude.{◌≡◌, ◌<◌, ◌≤◌, ℕ, zero, suc, List, [], ◌∷◌, length, ◌⊎◌}
use Rattle.std.proofs.Common.{refl, ap, arith, inl, inr}
use Rattle.std.proofs.lemmas.Bool.{cases_lt}
use Rattle.order_core.specs.Members.{IsMember}

-- the greatest first
pub numbers_below : ℕ → List ℕ
numbers_below zero = []
numbers_below (suc n) = n ∷ numbers_below n

pub below_is_member : (n x : ℕ) → x < n → IsMember x (numbers_below n)
unfolding numbers_below
below_is_member zero x l = absurd (omega arith)
below_is_member (suc n) x l = last_or_before (cases_lt x n) (below_is_member n x)
  where
    last_or_before : (x < n) ⊎ (n ≤ x) → (x < n → IsMember x (numbers_below n)) → IsMember x (n ∷ numbers_below n)
    last_or_before (inl less) before = inr (before less)
    last_or_before (inr more) before = inl (omega arith)

pub member_is_below : (n x : ℕ) → IsMember x (numbers_below n) → x < n
unfolding numbers_below
member_is_below zero x m = absurd m
member_is_below (suc n) x (inl same) = omega arith
member_is_below (suc n) x (inr m) = let less = member_is_below n x m in omega arith

pub length-numbers_below : (n : ℕ) → length (numbers_below n) ≡ n
unfolding numbers_below
length-numbers_below zero = refl
length-numbers_below (suc n) = ap suc (length-numbers_below n)
