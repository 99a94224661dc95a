-- The order in which values and rows are printed.
use Rattle.std.specs.Prelude.{ℕ, Bool, true, ◌&&◌, List, [], ◌∷◌}
use Rattle.std.specs.Cmp.Lexicographic.{slice_cmp}
use Rattle.std.specs.List.{list_all}
use Rattle.std.specs.Ordering.{is_lt, nat_cmp}
use Rattle.std.specs.declared.cmp.Ordering.{Ordering}
use Rattle.value_type.specs.declared.value.Value.{Value, out-Value}
use Rattle.value_type.specs.declared.value.Value.TheFolds.{fold-Value}
use Rattle.value_type.specs.declared.value.Value.TheOpen.{Value-F}
use Rattle.value_type.specs.Fits.{Layer}

-- where a value's form stands among the forms
abbrev pub form : {A : Type 0} → Value-F A → ℕ
form (Value-F.Num n) = 0
form Value-F.Top = 1
form (Value-F.El x) = 2
form (Value-F.Tup xs) = 3
form (Value-F.Up xs) = 4

-- Counts rise, and Top follows them. Elements rise by number. Tuples and upper sets compare from the left, one that another begins with before it.
-- Otherwise the forms decide. The first value is one level deep, with the comparisons of its parts in their place.
abbrev pub cmp_step : Value-F (Value → Ordering) → Layer → Ordering
cmp_step (Value-F.Num a) (Value-F.Num b) = nat_cmp a b
cmp_step (Value-F.El a) (Value-F.El b) = nat_cmp a b
cmp_step (Value-F.Tup parts) (Value-F.Tup ys) = slice_cmp (λ part y. part y) parts ys
cmp_step (Value-F.Up xs) (Value-F.Up ys) = slice_cmp nat_cmp xs ys
cmp_step x y = nat_cmp (form x) (form y)

abbrev pub value_cmp : Value → Value → Ordering
value_cmp = fold-Value (Value → Ordering) (λ x v. cmp_step x (out-Value v))

-- Rows compare value by value from the left, one that another begins with before it.
abbrev pub row_cmp : List Value → List Value → Ordering
row_cmp a b = slice_cmp value_cmp a b

-- the first row is printed before the second
abbrev pub is_before : List Value → List Value → Bool
is_before a b = is_lt (row_cmp a b)

-- Each row is printed before all that follow it, so none comes twice.
abbrev pub are_rising : List (List Value) → Bool
are_rising [] = true
are_rising (row ∷ rows) = list_all (is_before row) rows && are_rising rows
