-- A word as a set of numbers: those of its bits that are set.
use Rattle.std.specs.Prelude.{ℕ, Bool, nat_eq, List}
use Rattle.std.specs.Int.{bit_at}
use Rattle.order_core.specs.NumbersBelow.{numbers_below}

abbrev pub is_in_word : ℕ → ℕ → Bool
is_in_word word x = nat_eq (bit_at word x) 1

-- the members below n, in rising order
abbrev pub members_below : ℕ → ℕ → List ℕ
members_below n word = numbers_below n (is_in_word word)
