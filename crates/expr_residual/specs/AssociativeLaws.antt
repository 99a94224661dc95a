-- Operands of a sum, and those of a greatest number, may be taken in any order.
use Rattle.std.proofs.Common.{refl, sym, ap, ◌∙◌, arith}
use Rattle.std.proofs.lemmas.Bool.Decides.{nat_tests}
use Rattle.std.specs.Prelude.{◌≡◌, ◌+◌, ℕ, Bool, true, false, cond, nat_le, max, Option, Some, None}
use Rattle.order_core.specs.Num.{number_sum, greater_of, count_or_top}
use Rattle.order_core.specs.declared.num.Num.TheVariants.{Count, Top}
use Rattle.order_core.specs.declared.num.Num.{Num as Number}
use Rattle.value_type.specs.Forms.{number_value}
use Rattle.value_type.specs.declared.value.Value.{Value, out-Value}
use Rattle.design_model.specs.ExprLaws.{value-Sum, value-Greatest}
use Rattle.design_model.specs.NumberLaws.{number_back}
use Rattle.design_model.specs.ValueOf.{Reads, value_of, number_in, number_at, of_two}
use Rattle.design_model.specs.declared.expr.Expr.{Expr}
use Rattle.expr_residual.specs.Residual.{joined_by}
use Rattle.expr_residual.specs.declared.split.Associative.TheVariants as by
use Rattle.expr_residual.specs.declared.split.Associative.{Associative}

-- The operation may take its operands in any order.
pub record TakesAnyOrder (op : Number → Number → Number) : Type 0 where
  pub commutes : (a b : Number) → op a b ≡ op b a
  pub associates : (a b c : Number) → op (op a b) c ≡ op a (op b c)

abbrev pub on_numbers : Associative → Number → Number → Number
on_numbers by.Sum = number_sum
on_numbers by.Greatest = greater_of

sum_top : (x : Number) → number_sum x Top ≡ Top
sum_top (Count a) = refl
sum_top Top = refl

-- Where a first sum passes the greatest count, the whole sum does.
left_sum : (a b c : ℕ) → number_sum (count_or_top (a + b)) (Count c) ≡ count_or_top (a + b + c)
left_sum a b c = go (nat_le (a + b) 10000000000000000000) (nat_le (a + b + c) 10000000000000000000) refl refl
  where
    go : (s t : Bool) → nat_le (a + b) 10000000000000000000 ≡ s → nat_le (a + b + c) 10000000000000000000 ≡ t → number_sum (cond s (Count (a + b)) Top) (Count c) ≡ cond t (Count (a + b + c)) Top
    go true true e f = rw f refl
    go true false e f = rw f refl
    go false true e f = absurd (grind (arith, nat_tests))
    go false false e f = refl

sum_commutes : (a b : Number) → number_sum a b ≡ number_sum b a
sum_commutes (Count a) (Count b) = let same : a + b ≡ b + a = omega arith in ap count_or_top same
sum_commutes (Count a) Top = refl
sum_commutes Top (Count b) = refl
sum_commutes Top Top = refl

sum_associates : (a b c : Number) → number_sum (number_sum a b) c ≡ number_sum a (number_sum b c)
sum_associates (Count a) (Count b) (Count c) =
    let same : b + c + a ≡ a + b + c = omega arith in
    left_sum a b c ∙ (ap count_or_top (sym same) ∙ (sym (left_sum b c a) ∙ sum_commutes (count_or_top (b + c)) (Count a)))
sum_associates (Count a) (Count b) Top = sum_top (number_sum (Count a) (Count b))
sum_associates (Count a) Top c = refl
sum_associates Top b c = refl

greatest_commutes : (a b : Number) → greater_of a b ≡ greater_of b a
greatest_commutes (Count a) (Count b) = let same : max a b ≡ max b a = omega arith in ap Count same
greatest_commutes (Count a) Top = refl
greatest_commutes Top (Count b) = refl
greatest_commutes Top Top = refl

greatest_top : (x : Number) → greater_of x Top ≡ Top
greatest_top (Count a) = refl
greatest_top Top = refl

greatest_associates : (a b c : Number) → greater_of (greater_of a b) c ≡ greater_of a (greater_of b c)
greatest_associates (Count a) (Count b) (Count c) = let same : max (max a b) c ≡ max a (max b c) = omega arith in ap Count same
greatest_associates (Count a) (Count b) Top = refl
greatest_associates (Count a) Top c = refl
greatest_associates Top b c = refl

pub any_order : (op : Associative) → TakesAnyOrder (on_numbers op)
any_order by.Sum = record { commutes = sum_commutes; associates = sum_associates }
any_order by.Greatest = record { commutes = greatest_commutes; associates = greatest_associates }

-- the operation on values, where both are numbers
abbrev pub on_values : Associative → Option Value → Option Value → Option Value
on_values op x y = of_two (on_numbers op) (number_in x) (number_in y)

pub value-joined : (op : Associative) (a b : Expr) (reads : Reads) → value_of (joined_by op a b) reads ≡ on_values op (value_of a reads) (value_of b reads)
value-joined by.Sum a b reads = value-Sum a b reads
value-joined by.Greatest a b reads = value-Greatest a b reads

number_made : (op : Number → Number → Number) (x y : Number) → number_in (of_two op (Some x) (Some y)) ≡ Some (op x y)
number_made op x y = number_back (op x y)

commuted : (op : Number → Number → Number) → TakesAnyOrder op → (x y : Option Number) → of_two op x y ≡ of_two op y x
commuted op is (Some x) (Some y) = ap (λ n. Some (number_value n)) (is.commutes x y)
commuted op is (Some x) None = refl
commuted op is None (Some y) = refl
commuted op is None None = refl

regrouped : (op : Number → Number → Number) → TakesAnyOrder op → (x y z : Option Number) → of_two op (number_in (of_two op x y)) z ≡ of_two op x (number_in (of_two op y z))
regrouped op is (Some x) (Some y) (Some z) = rw (number_made op x y, number_made op y z) (ap (λ n. Some (number_value n)) (is.associates x y z))
regrouped op is (Some x) (Some y) None = rw (number_made op x y) refl
regrouped op is (Some x) None z = refl
regrouped op is None y z = refl

pub values_commute : (op : Associative) (x y : Option Value) → on_values op x y ≡ on_values op y x
values_commute op x y = commuted (on_numbers op) (any_order op) (number_in x) (number_in y)

pub values_associate : (op : Associative) (x y z : Option Value) → on_values op (on_values op x y) z ≡ on_values op x (on_values op y z)
values_associate op x y z = regrouped (on_numbers op) (any_order op) (number_in x) (number_in y) (number_in z)
