-- Sums and maxima of numbers that may be missing, and what becomes of them in 64 bits.
use Rattle.std.proofs.Common.{refl, ap, arith, add-one}
use Rattle.std.proofs.Math.Seq.{drop-cons}
use Rattle.std.specs.Prelude.{◌≡◌, ℕ, suc, slice_get, ◌+◌, ◌-◌, ◌^◌, ◌<◌, List, [], ◌∷◌, ◌++◌, map, Option, Some, None, option_map, drop, length, get_or}
use Rattle.cut_plan.specs.Totals.{clip, clipped, plus, sum_from}
use Rattle.design_model.specs.Heights.{sum_all, height, part_heights, parts_at, count_numbers, size}
use Rattle.value_type.specs.declared.kind.Kind.TheFolds.{fold_out-Kind}
use Rattle.value_type.specs.declared.kind.Kind.TheVariants as kind
use Rattle.value_type.specs.declared.kind.Kind.{Kind}
use Rattle.value_type.specs.declared.poset.Types.{Types}
use Rattle.value_type.specs.declared.value.Value.{Value}

pub clip_small : (n : ℕ) → n < 2 ^ 64 → clip n ≡ n
clip_small n h = omega arith

pub clip_sum : (total a n b : ℕ) → clip a ≡ n → clip (total + (a + b)) ≡ clip (clip (total + n) + b)
clip_sum total a n b h = omega arith

-- one summand more
pub sum_step : (total n : ℕ) (first : Option ℕ) (rest : List (Option ℕ)) → Some n ≡ clipped first → sum_from total (first ∷ rest) ≡ sum_from (clip (total + n)) rest
sum_step total n None rest h = absurd (cc)
sum_step total n (Some a) rest h = at (sum_all rest)
  where
    same : clip a ≡ n
    same = cc

    at : (o : Option ℕ) → clipped (option_map (λ b. total + b) (option_map (λ b. a + b) o)) ≡ clipped (option_map (λ b. clip (total + n) + b) o)
    at None = refl
    at (Some b) = ap Some (clip_sum total a n b same)

pub sum_none : (total : ℕ) (first : Option ℕ) (rest : List (Option ℕ)) → None ≡ clipped first → sum_from total (first ∷ rest) ≡ None
sum_none total None rest h = refl
sum_none total (Some a) rest h = absurd (cc)

pub sum_start : (all : List (Option ℕ)) → clipped (sum_all all) ≡ sum_from 0 all
sum_start all = at (sum_all all)
  where
    at : (o : Option ℕ) → clipped o ≡ clipped (option_map (λ b. 0 + b) o)
    at None = refl
    at (Some b) = ap (λ n. Some (clip n)) (omega arith)

pub sum_end : (total : ℕ) → total < 2 ^ 64 → sum_from total [] ≡ Some total
sum_end total h = ap Some (omega arith)

-- the sum of one list after another
pub sum_append : (xs ys : List (Option ℕ)) → sum_all (xs ++ ys) ≡ plus (sum_all xs) (sum_all ys)
sum_append [] ys = at (sum_all ys)
  where
    at : (o : Option ℕ) → o ≡ plus (Some 0) o
    at None = refl
    at (Some b) = ap Some (omega arith)
sum_append (None ∷ xs) ys = refl
sum_append (Some a ∷ xs) ys = rw (sum_append xs ys) (at (sum_all xs) (sum_all ys))
  where
    at : (x y : Option ℕ) → option_map (λ b. a + b) (plus x y) ≡ plus (option_map (λ b. a + b) x) y
    at None y = refl
    at (Some b) None = refl
    at (Some b) (Some c) = ap Some (omega arith)

-- the sum of the heights of a list that begins with another
pub sum_joined : (total : ℕ) (xs ys : List (Option ℕ)) → sum_from total (xs ++ ys) ≡ sum_from total (sum_all xs ∷ ys)
sum_joined total xs ys = ap (λ o. clipped (option_map (λ b. total + b) o)) (sum_append xs ys)

pub heights_step : (t : Types) (kinds : List Kind) (i : ℕ) (k : Kind) (values : Option (List Value)) → i < length kinds → k ≡ get_or kinds i k
    → part_heights i (map (height t) (drop i kinds)) values ≡ height t k (option_map (parts_at i) values) ∷ part_heights (i + 1) (map (height t) (drop (i + 1) kinds)) values
heights_step t kinds i k values h e = rw (add-one, drop-cons kinds i k h, ← e) (ap (λ n. height t k (option_map (parts_at i) values) ∷ part_heights n (map (height t) (drop (suc i) kinds)) values) (add-one i))
