-- How many different numbers there are among values: the different counts, and one more for the number above them.
use Rattle.std.proofs.Common.{refl, sym, ap, inl, inr, arith}
use Rattle.std.proofs.lemmas.Bool.{eqb-true, eq-eqb}
use Rattle.std.proofs.lemmas.List.Kept.{AllPairs-from_increasing}
use Rattle.std.specs.List.Sorted.{IsStrictlyIncreasing}
use Rattle.std.specs.List.{list_any, cons_option, Contains}
use Rattle.std.specs.Prelude.{◌≡◌, ◌≢◌, ℕ, suc, ◌+◌, ◌<◌, ◌≤◌, Bool, true, false, not, cond, ◌||◌, ◌==◌, List, [], ◌∷◌, filter, filter_map, Option, Some, None, length, get_or}
use Rattle.cut_plan.specs.Different.{count_in, counts, different_counts, is_top, top_in}
use Rattle.cut_plan.specs.OrderLaws.{Once, without_length, still_without, once_filter, item_at}
use Rattle.design_model.specs.Evaluation.{without}
use Rattle.design_model.specs.Heights.{different, is_same, is_zero, count_numbers}
use Rattle.design_model.specs.ValueOf.{number_at}
use Rattle.order_core.specs.MemberLaws.{any_elim, any_intro, contains_member, member_contained}
use Rattle.order_core.specs.Members.{IsMember}
use Rattle.order_core.specs.declared.num.Num.TheVariants as number
use Rattle.order_core.specs.declared.num.Num.{Num as Number}
use Rattle.value_type.specs.declared.value.Value.{Value, out-Value}

abbrev nonzero : List Number → List Number
nonzero ns = filter (λ x. not (is_zero x)) ns

abbrev counts_in : List Number → List ℕ
counts_in ns = filter_map (λ n. count_in (Some n)) ns

abbrev has_top : List Number → Bool
has_top ns = list_any (λ n. top_in (Some n)) ns

same_count : (a : ℕ) (ns : List Number) → list_any (is_same (number.Count a)) (nonzero ns) ≡ list_any (λ y. a == y) (counts_in ns)
same_count a [] = refl
same_count a (number.Top ∷ ns) = same_count a ns
same_count a (number.Count b ∷ ns) = at (b == 0) (same_count a ns)
  where
    at : (z : Bool) → list_any (is_same (number.Count a)) (nonzero ns) ≡ list_any (λ y. a == y) (counts_in ns)
        → list_any (is_same (number.Count a)) (cond (not z) (number.Count b ∷ nonzero ns) (nonzero ns)) ≡ list_any (λ y. a == y) (cons_option (cond z None (Some b)) (counts_in ns))
    at true ih = ih
    at false ih = ap (λ r. (a == b) || r) ih

same_top : (ns : List Number) → list_any (is_same number.Top) (nonzero ns) ≡ has_top ns
same_top [] = refl
same_top (number.Top ∷ ns) = refl
same_top (number.Count b ∷ ns) = at (b == 0) (same_top ns)
  where
    at : (z : Bool) → list_any (is_same number.Top) (nonzero ns) ≡ has_top ns → list_any (is_same number.Top) (cond (not z) (number.Count b ∷ nonzero ns) (nonzero ns)) ≡ has_top ns
    at true ih = ih
    at false ih = ih

many_different : (ns : List Number) → length (different (nonzero ns)) ≡ length (different_counts (counts_in ns)) + cond (has_top ns) 1 0
many_different [] = omega arith
many_different (number.Top ∷ ns) = at (list_any (is_same number.Top) (nonzero ns)) (same_top ns) (many_different ns)
  where
    at : (b : Bool) → b ≡ has_top ns → length (different (nonzero ns)) ≡ length (different_counts (counts_in ns)) + cond (has_top ns) 1 0
        → length (cond b (different (nonzero ns)) (number.Top ∷ different (nonzero ns))) ≡ length (different_counts (counts_in ns)) + 1
    at true e ih = rw (← e) at ih
    at false e ih = let none = rw (← e) at ih in omega (arith, none)
many_different (number.Count a ∷ ns) = at (a == 0) (many_different ns) (same_count a ns)
  where
    top : ℕ
    top = cond (has_top ns) 1 0

    one : (b : Bool) → length (different (nonzero ns)) ≡ length (different_counts (counts_in ns)) + top
        → length (cond b (different (nonzero ns)) (number.Count a ∷ different (nonzero ns))) ≡ length (cond b (different_counts (counts_in ns)) (a ∷ different_counts (counts_in ns))) + top
    one true ih = ih
    one false ih = omega (arith, ih)

    at : (z : Bool) → length (different (nonzero ns)) ≡ length (different_counts (counts_in ns)) + top
        → list_any (is_same (number.Count a)) (nonzero ns) ≡ list_any (λ y. a == y) (counts_in ns)
        → length (different (cond (not z) (number.Count a ∷ nonzero ns) (nonzero ns))) ≡ length (different_counts (cons_option (cond z None (Some a)) (counts_in ns))) + top
    at true ih e = ih
    at false ih e = rw e (one (list_any (λ y. a == y) (counts_in ns)) ih)

-- the same of values
counts_are : (values : List Value) → counts values ≡ counts_in (filter_map (λ v. number_at (out-Value v)) values)
counts_are [] = refl
counts_are (v ∷ values) = at (number_at (out-Value v)) (counts_are values)
  where
    rest : List Number
    rest = filter_map (λ v. number_at (out-Value v)) values

    at : (n : Option Number) → counts values ≡ counts_in rest → cons_option (count_in n) (counts values) ≡ counts_in (cons_option n rest)
    at None ih = ih
    at (Some n) ih = ap (cons_option (count_in (Some n))) ih

tops_are : (values : List Value) → list_any (λ v. is_top (out-Value v)) values ≡ has_top (filter_map (λ v. number_at (out-Value v)) values)
tops_are [] = refl
tops_are (v ∷ values) = at (number_at (out-Value v)) (tops_are values)
  where
    rest : List Number
    rest = filter_map (λ v. number_at (out-Value v)) values

    at : (n : Option Number) → list_any (λ v. is_top (out-Value v)) values ≡ has_top rest → (top_in n || list_any (λ v. is_top (out-Value v)) values) ≡ has_top (cons_option n rest)
    at None ih = ih
    at (Some n) ih = ap (λ b. top_in (Some n) || b) ih

-- Lists without repeated items that have the same items are of one length.
no_longer : (xs ys : List ℕ) → Once xs → Once ys → ((p : ℕ) → IsMember p xs → IsMember p ys) → length xs ≤ length ys
no_longer [] ys h k f = omega arith
no_longer (x ∷ xs) ys h k f =
    let apart : (p : ℕ) → IsMember p xs → p ≢ x = λ p m e. h.0 (rw (← e) m) in
    let fewer = no_longer xs (without x ys) h.1 (once_filter (λ q. not (q == x)) ys k) (λ p m. still_without x p ys (apart p m) (f p (inr m))) in
    omega (arith, fewer, without_length x ys k (f x (inl refl)))

differ_member : (xs : List ℕ) (p : ℕ) → IsMember p (different_counts xs) → IsMember p xs
differ_member [] p m = absurd m
differ_member (x ∷ xs) p m = at (list_any (λ y. x == y) xs) (differ_member xs p) m
  where
    at : (b : Bool) → (IsMember p (different_counts xs) → IsMember p xs) → IsMember p (cond b (different_counts xs) (x ∷ different_counts xs)) → IsMember p (x ∷ xs)
    at true ih k = inr (ih k)
    at false ih (inl e) = inl e
    at false ih (inr k) = inr (ih k)

member_differs : (xs : List ℕ) (p : ℕ) → IsMember p xs → IsMember p (different_counts xs)
member_differs [] p m = absurd m
member_differs (x ∷ xs) p m = at (list_any (λ y. x == y) xs) refl (member_differs xs p) m
  where
    at : (b : Bool) → list_any (λ y. x == y) xs ≡ b → (IsMember p xs → IsMember p (different_counts xs)) → IsMember p (x ∷ xs) → IsMember p (cond b (different_counts xs) (x ∷ different_counts xs))
    at true e ih (inl f) = let found = any_elim (λ y. x == y) xs e in let same : x ≡ found.0 = eqb-true x found.0 found.2 in ih (rw (f, same) found.1)
    at true e ih (inr k) = ih k
    at false e ih (inl f) = inl f
    at false e ih (inr k) = inr (ih k)

differ_once : (xs : List ℕ) → Once (different_counts xs)
differ_once [] = tt
differ_once (x ∷ xs) = at (list_any (λ y. x == y) xs) refl (differ_once xs)
  where
    at : (b : Bool) → list_any (λ y. x == y) xs ≡ b → Once (different_counts xs) → Once (cond b (different_counts xs) (x ∷ different_counts xs))
    at true e ih = ih
    at false e ih = ((λ m. let yes : list_any (λ y. x == y) xs ≡ true = any_intro (λ y. x == y) xs x (differ_member xs x m) (eq-eqb x x refl) in cc), ih)

rising_once : (xs : List ℕ) → ((i j : ℕ) (d : ℕ) → i < j → j < length xs → get_or xs i d < get_or xs j d) → Once xs
rising_once [] h = tt
rising_once (x ∷ xs) h = (
  (λ m. let k = contains_member xs x m in let more : x < get_or xs k.0 x = h 0 (suc k.0) x (omega arith) (omega (arith, k.1)) in omega (arith, more, k.2)),
  rising_once xs (λ i j d a b. h (suc i) (suc j) d (omega arith) (omega arith)),
)

-- A rising list of the counts has one item for each different count.
pub counted : (values : List Value) (rising : List ℕ) → IsStrictlyIncreasing rising → ((p : ℕ) → Contains (counts values) p → Contains rising p)
    → ((p : ℕ) → Contains rising p → Contains (counts values) p) → length rising + cond (list_any (λ v. is_top (out-Value v)) values) 1 0 ≡ count_numbers values
counted values rising rises keeps adds =
    let ns = filter_map (λ v. number_at (out-Value v)) values in
    let once = rising_once rising (AllPairs-from_increasing rising rises) in
    let fewer = no_longer rising (different_counts (counts values)) once (differ_once (counts values))
    (λ p m. member_differs (counts values) p (member_contained (counts values) p (adds p (contains_member rising p m)))) in
    let more = no_longer (different_counts (counts values)) rising (differ_once (counts values)) once
    (λ p m. member_contained rising p (keeps p (contains_member (counts values) p (differ_member (counts values) p m)))) in
    let all : count_numbers values ≡ length (different_counts (counts values)) + cond (list_any (λ v. is_top (out-Value v)) values) 1 0
    = rw (counts_are values, tops_are values) (many_different ns) in
    omega (arith, fewer, more, all)
