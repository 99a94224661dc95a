-- Numbers below a bound that pass a test.
use Rattle.std.specs.Prelude.{ℕ, zero, suc, Bool, List, [], ◌∷◌, ◌++◌, cond}

-- the numbers below n that pass, in rising order
abbrev pub numbers_below : ℕ → (ℕ → Bool) → List ℕ
numbers_below zero passes = []
numbers_below (suc n) passes = cond (passes n) (numbers_below n passes ++ n ∷ []) (numbers_below n passes)
