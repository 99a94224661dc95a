-- Numbers, by size.
use Rattle.std.specs.Prelude.{◌+◌, ◌*◌, ℕ, Bool, true, false, cond, nat_le, nat_eq, min, max}
use Rattle.order_core.specs.declared.num.Num.TheVariants.{Count, Top}
use Rattle.order_core.specs.declared.num.Num.{Num}

-- a count of at most ten to the nineteenth, or Top
abbrev pub is_number : Num → Bool
is_number (Count n) = nat_le n 10000000000000000000
is_number Top = true

-- by size, Top greatest
abbrev pub number_leq : Num → Num → Bool
number_leq (Count a) (Count b) = nat_le a b
number_leq (Count a) Top = true
number_leq Top (Count b) = false
number_leq Top Top = true

abbrev pub greater_of : Num → Num → Num
greater_of (Count a) (Count b) = Count (max a b)
greater_of Top b = Top
greater_of (Count a) Top = Top

abbrev pub lesser_of : Num → Num → Num
lesser_of (Count a) (Count b) = Count (min a b)
lesser_of Top b = b
lesser_of (Count a) Top = Count a

-- the count, or Top where it is greater than the greatest count
abbrev pub count_or_top : ℕ → Num
count_or_top n = cond (nat_le n 10000000000000000000) (Count n) Top

abbrev pub number_sum : Num → Num → Num
number_sum (Count a) (Count b) = count_or_top (a + b)
number_sum Top b = Top
number_sum (Count a) Top = Top

-- Zero times anything is zero, Top included.
abbrev pub number_product : Num → Num → Num
number_product (Count a) (Count b) = count_or_top (a * b)
number_product (Count a) Top = cond (nat_eq a 0) (Count 0) Top
number_product Top (Count b) = cond (nat_eq b 0) (Count 0) Top
number_product Top Top = Top
