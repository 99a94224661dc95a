-- Numbers in an order in which what each names stands before it.
use Rattle.std.proofs.Common.{◌≡◌, ◌∙◌, ◌<◌, ◌≤◌, ◌+◌, ◌⊎◌, inl, inr, arith, refl, sym, ap, subst, append_assoc, ℕ, zero, suc, Bool, true, false, cond, List, [], ◌∷◌, ◌++◌, get_or, length}
use Rattle.std.proofs.lemmas.Bool.{cases_lt, eq-eqb, eqb-true}
use Rattle.std.proofs.lemmas.Map.Keys.{ge_from_not_lt}
use Rattle.std.proofs.lemmas.Option.{slice_get_within}
use Rattle.std.proofs.lemmas.List.Sorted.{sum_by-IsPermutation}
use Rattle.std.proofs.lemmas.List.Sums.{sum_by-append, sum_by-cons, sum_by_push}
use Rattle.std.specs.List.{sum_by}
use Rattle.std.specs.List.Sorted.{IsPermutation, IsSortedBy}
use Rattle.std.specs.Ordering.{is_lt, nat_cmp}
use Rattle.std.specs.Prelude.{Some, nat_eq, slice_get}
use Rattle.design_measure.specs.Orders.{InOrder, IsOrderOf, named_by}
use Rattle.order_core.specs.MemberLaws.{mem-right, mem-split}
use Rattle.order_core.specs.Members.{IsMember}
use Rattle.order_core.specs.NumbersBelow.{numbers_below}
use Rattle.order_core.specs.NumbersBelowLaws.{number_passes, passing_number}
use Rattle.order_core.specs.PermutationLaws.{members_before, members_permuted}
use Rattle.order_core.specs.Pointwise.{Each}
use Rattle.order_core.specs.PointwiseLaws.{each_got, each_made}
use Rattle.reference_meaning.specs.Modules.{Modules}

-- ---- the numbers below n, each once

abbrev pub all_below : ℕ → List ℕ
all_below n = numbers_below n (λ x. true)

abbrev one_if : Bool → ℕ
one_if t = cond t 1 0

abbrev is_it : ℕ → ℕ → ℕ
is_it i j = one_if (nat_eq i j)

is_itself : (i : ℕ) → is_it i i ≡ 1
is_itself i = ap one_if (eq-eqb i i refl)

is_other : (i j : ℕ) → (i < j) ⊎ (j < i) → is_it i j ≡ 0
is_other i j l = go (nat_eq i j) refl
  where
    differ : i ≡ j → (i < j) ⊎ (j < i) → ⊥
    differ e (inl h) = omega (arith, e, h)
    differ e (inr h) = omega (arith, e, h)

    go : (t : Bool) → nat_eq i j ≡ t → one_if t ≡ 0
    go true e = absurd (differ (eqb-true i j e) l)
    go false e = refl

at_most_one : (i j : ℕ) → is_it i j ≤ 1
at_most_one i j = go (nat_eq i j)
  where
    go : (t : Bool) → cond t 1 0 ≤ 1
    go true = omega arith
    go false = omega arith

one_more : (n i : ℕ) → sum_by (is_it i) (all_below (suc n)) ≡ sum_by (is_it i) (all_below n) + is_it i n
one_more n i = sum_by_push (is_it i) (all_below n) n

below_none : (n i : ℕ) → n ≤ i → sum_by (is_it i) (all_below n) ≡ 0
below_none zero i le = refl
below_none (suc n) i le = let rest = below_none n i (omega arith) in let here = is_other i n (inr (omega arith)) in let e = one_more n i in omega arith

-- A number stands there once at most.
below_once : (n i : ℕ) → sum_by (is_it i) (all_below n) ≤ 1
below_once zero i = omega arith
below_once (suc n) i = go (cases_lt i n) (below_once n i)
  where
    go : (i < n) ⊎ (n ≤ i) → sum_by (is_it i) (all_below n) ≤ 1 → sum_by (is_it i) (all_below (suc n)) ≤ 1
    go (inl l) rest = let here = is_other i n (inl l) in let e = one_more n i in omega arith
    go (inr le) before = let rest = below_none n i le in let here = at_most_one i n in let e = one_more n i in omega arith

-- A member counts.
member_counts : (i : ℕ) (xs : List ℕ) → IsMember i xs → 1 ≤ sum_by (is_it i) xs
member_counts i [] m = absurd m
member_counts i (x ∷ xs) (inl e) = let h = subst (λ y. is_it i y ≡ 1) e (is_itself i) in let s = sum_by-cons (is_it i) x xs in omega arith
member_counts i (x ∷ xs) (inr m) = let rest = member_counts i xs m in let s = sum_by-cons (is_it i) x xs in omega arith

-- ---- an order by ranks

module _ (modules : Modules) (rank : ℕ → ℕ) (n : ℕ) (falls : (i j : ℕ) → i < n → IsMember j (named_by (slice_get modules i)) → (j < n) × (rank j < rank i)) where
  -- The ranks rise.
  abbrev Rises : List ℕ → Type 0
  Rises [] = Unit {0}
  Rises (x ∷ xs) = Each (λ y. rank x ≤ rank y) xs × Rises xs

  abbrev pub less : ℕ → ℕ → Bool
  less x y = is_lt (nat_cmp (rank x) (rank y))

  sorted_rises : (xs : List ℕ) → IsSortedBy less xs → Rises xs
  sorted_rises [] s = tt
  sorted_rises (x ∷ []) s = (tt, tt)
  sorted_rises (x ∷ y ∷ xs) s =
      let rest = sorted_rises (y ∷ xs) (λ k d low high. let next : suc k + 1 ≡ suc (k + 1) = omega arith in
      subst (λ n. less (get_or (x ∷ y ∷ xs) n d) (get_or (y ∷ xs) k d) ≡ false) next (s (suc k) d (omega arith) (omega arith))) in
      let next : rank x ≤ rank y = ge_from_not_lt (rank y) (rank x) (s 0 x (omega arith) (omega arith)) in
      ((next, each_made (λ z. rank x ≤ rank z) xs (λ z m. let later = each_got (λ z. rank y ≤ rank z) xs z rest.0 m in omega arith)), rest)

  module _ (order : List ℕ) (perm : IsPermutation (all_below n) order) where
    inside : (i : ℕ) → IsMember i order → i < n
    inside i m = (number_passes (λ x. true) n i (members_permuted (all_below n) order i perm m)).0

    there : (i : ℕ) → i < n → IsMember i order
    there i l = members_before (all_below n) order i perm (passing_number (λ x. true) n i l refl)

    once : (before rest : List ℕ) (i : ℕ) → order ≡ before ++ i ∷ rest → IsMember i before → ⊥
    once before rest i e m =
        let all = sum_by-IsPermutation (is_it i) (all_below n) order perm in
        let two = ap (sum_by (is_it i)) e ∙ sum_by-append (is_it i) before (i ∷ rest) in
        let here = sum_by-cons (is_it i) i rest in let itself = is_itself i in let some = member_counts i before m in let one = below_once n i in
        omega arith

    before_it : (before rest : List ℕ) (i j : ℕ) → order ≡ before ++ i ∷ rest → Rises (i ∷ rest) → IsMember j (named_by (slice_get modules i)) → IsMember j before
    before_it before rest i j e rises m =
        let within : i < n = inside i (subst (IsMember i) (sym e) (mem-right before (i ∷ rest) i (inl refl))) in
        let f = falls i j within m in
        go f.1 (mem-split before (i ∷ rest) j (subst (IsMember j) e (there j f.0)))
      where
        go : rank j < rank i → IsMember j before ⊎ IsMember j (i ∷ rest) → IsMember j before
        go l (inl h) = h
        go l (inr (inl same)) = let never : ⊥ = let s = ap rank same in omega arith in absurd never
        go l (inr (inr h)) = let le = each_got (λ y. rank i ≤ rank y) rest j rises.0 h in let never : ⊥ = omega arith in absurd never

    in_order : (before rest : List ℕ) → order ≡ before ++ rest → Rises rest → InOrder modules before rest
    in_order before [] e rises = tt
    in_order before (i ∷ rest) e rises = (
      once before rest i e,
      each_made (λ j. IsMember j before) (named_by (slice_get modules i)) (λ j m. before_it before rest i j e rises m),
      in_order (before ++ i ∷ []) rest (e ∙ sym (append_assoc before (i ∷ []) rest)) rises.1,
    )

    -- Numbers that are sorted by their ranks stand in such an order.
    pub sorted_order : length modules ≡ n → IsSortedBy less order → IsOrderOf modules order
    sorted_order size sorted = record {
      in_order = in_order [] order refl (sorted_rises order sorted);
      all = λ i m got. there i (let l = slice_get_within modules i (Some m) got in omega arith);
    }
