-- Upper sets of a finite order, each written as its minimal elements, and ordered by reverse inclusion.
use Rattle.std.specs.Prelude.{ℕ, Bool, true, ◌&&◌, nat_le, ◌+◌, List, [], ◌∷◌}
use Rattle.std.specs.List.{list_all, list_any}
use Rattle.order_core.specs.Order.{are_incomparable}
use Rattle.order_core.specs.Finite.{is_element, is_below}

-- Each number is at least k, and greater than the one before it.
abbrev pub rise_from : ℕ → List ℕ → Bool
rise_from k [] = true
rise_from k (x ∷ xs) = nat_le k x && rise_from (x + 1) xs

-- elements in rising order, no two of them comparable
abbrev pub is_upper : List ℕ → List ℕ → Bool
is_upper table xs = list_all (is_element table) xs && (rise_from 0 xs && are_incomparable (is_below table) xs)

-- The element is in the upper set: it lies above a member.
abbrev pub is_in : List ℕ → List ℕ → ℕ → Bool
is_in table xs y = list_any (λ x. is_below table x y) xs

-- The first upper set contains the second: each member of ys lies above a member of xs.
abbrev pub upper_leq : List ℕ → List ℕ → List ℕ → Bool
upper_leq table xs ys = list_all (is_in table xs) ys
