-- Where chains of pairs lead, worked out number by number.
use Rattle.std.specs.Prelude.{ℕ, zero, suc, Bool, ◌&&◌, ◌||◌, nat_eq, List}
use Rattle.std.specs.List.{list_any}

abbrev pub is_pair : ℕ → ℕ → ℕ × ℕ → Bool
is_pair a b pair = nat_eq a pair.0 && nat_eq b pair.1

-- A chain of pairs, of one at least, whose inner numbers are all below k, leads from a to b.
abbrev pub leads_through : List (ℕ × ℕ) → ℕ → ℕ → ℕ → Bool
leads_through pairs zero a b = list_any (is_pair a b) pairs
leads_through pairs (suc k) a b = leads_through pairs k a b || (leads_through pairs k a k && leads_through pairs k k b)
