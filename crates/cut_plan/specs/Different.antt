-- How many different numbers there are among values: the different counts, and one more for the number above them.
use Rattle.std.specs.List.{list_any}
use Rattle.std.specs.Prelude.{ℕ, Bool, true, false, cond, ◌==◌, List, [], ◌∷◌, filter_map, Option, Some, None}
use Rattle.design_model.specs.ValueOf.{number_at}
use Rattle.order_core.specs.declared.num.Num.TheVariants as number
use Rattle.order_core.specs.declared.num.Num.{Num as Number}
use Rattle.value_type.specs.Fits.{Layer}
use Rattle.value_type.specs.declared.value.Value.{Value, out-Value}

abbrev pub count_in : Option Number → Option ℕ
count_in (Some (number.Count n)) = cond (n == 0) None (Some n)
count_in (Some number.Top) = None
count_in None = None

abbrev pub top_in : Option Number → Bool
top_in (Some (number.Count n)) = false
top_in (Some number.Top) = true
top_in None = false

-- the count that the value is, if it is one besides zero
abbrev pub count_at : Layer → Option ℕ
count_at v = count_in (number_at v)

abbrev pub is_top : Layer → Bool
is_top v = top_in (number_at v)

-- the counts besides zero among the values
abbrev pub counts : List Value → List ℕ
counts values = filter_map (λ v. count_at (out-Value v)) values

-- each count once
abbrev pub different_counts : List ℕ → List ℕ
different_counts [] = []
different_counts (x ∷ xs) = cond (list_any (λ y. x == y) xs) (different_counts xs) (x ∷ different_counts xs)
