-- The order of a table, found by trying all its elements.
use Rattle.std.specs.Prelude.{ℕ, zero, suc, Bool, true, ◌&&◌, ◌||◌, not, nat_eq, nat_lt, ◌^◌, List, length, slice_index}
use Rattle.order_core.specs.Finite.{is_below}

-- Each number below n passes the test.
abbrev pub all_below : (ℕ → Bool) → ℕ → Bool
all_below test zero = true
all_below test (suc n) = test n && all_below test n

abbrev pub is_reflexive : List ℕ → Bool
is_reflexive table = all_below (λ x. is_below table x x) (length table)

abbrev pub is_transitive : List ℕ → Bool
is_transitive table = all_below (λ x. all_below (λ y. all_below (λ z. not (is_below table x y) || (not (is_below table y z) || is_below table x z)) (length table)) (length table)) (length table)

abbrev pub is_antisymmetric : List ℕ → Bool
is_antisymmetric table = all_below (λ x. all_below (λ y. not (is_below table x y) || (not (is_below table y x) || nat_eq x y)) (length table)) (length table)

-- No word has a number that is no element.
abbrev pub is_within : List ℕ → Bool
is_within table = all_below (λ x. nat_lt (slice_index table x) (2 ^ length table)) (length table)
