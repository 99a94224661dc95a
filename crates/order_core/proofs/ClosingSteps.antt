-- The table of walks, from no pairs on, one pair more, and what it tells in the end.
use Rattle.std.proofs.Common.{◌≡◌, ◌∙◌, ◌<◌, ◌≤◌, ◌^◌, arith, refl, sym, ap, subst, ℕ, Bool, true, false, ◌&&◌, ◌||◌, IsTrue, List, [], ◌∷◌, ◌++◌, ◌⊎◌, inl, inr, length, get_or, map, cond, take, drop, set, ◌+◌}
use Rattle.std.specs.Int.Bits.{bit_or}
use Rattle.std.proofs.lemmas.Bool.{cases_eq, cases_lt, cases_order, or_cases, ltb-true, lt-ltb}
use Rattle.std.proofs.lemmas.List.{length-map, get_or-map, get_or_default, take_more}
use Rattle.std.proofs.lemmas.List.Edits.{map_over_more}
use Rattle.order_core.specs.Finite.{is_element, is_below, IsTable}
use Rattle.order_core.specs.Mutual.{AreMutual, NoneMutual, IsFirstMutual}
use Rattle.std.specs.List.{list_all}
use Rattle.order_core.specs.MemberLaws.{first, second, all_at}
use Rattle.order_core.specs.Walk.{WalksAlong, Walk, IsClosure, is_pair_below, BothWays, IsFirstCycle}
use Rattle.order_core.specs.WalkLaws.{walk_none, walk_join, walk_more, Led, walk_led, led_walk, both_below, walk_within}
use Rattle.order_core.specs.Word.{is_in_word}
use Rattle.order_core.specs.WordLaws.{has_or, has_one, has_other}
use Rattle.std.proofs.Math.Bool.{or-true}

pub closure_none : (n : ℕ) (table : List ℕ) → length table ≡ n → ((k : ℕ) → k < n → get_or table k 0 ≡ 2 ^ k) → IsClosure n [] table
closure_none n table size rows = record { size = size; walks = λ a b l. (there a b l, λ w. back a b l w.0 w.1) }
  where
    there : (a b : ℕ) → a < n → IsTrue (is_below table a b) → Walk [] a b
    there a b l h = go (cases_eq b a)
      where
        go : (b ≡ a) ⊎ (b ≡ a → ⊥) → Walk [] a b
        go (inl e) = ([], sym e)
        go (inr e) =
            let at : IsTrue (is_in_word (2 ^ a) b) = subst (λ row. IsTrue (is_in_word row b)) (rows a l) h in
            let no : is_in_word (2 ^ a) b ≡ false = has_other a b e in
            absurd (cc)

    back : (a b : ℕ) → a < n → (s : List ℕ) → WalksAlong [] a s b → IsTrue (is_below table a b)
    back a b l [] e =
        let one : IsTrue (is_in_word (get_or table a 0) a) = subst (λ row. IsTrue (is_in_word row a)) (sym (rows a l)) (has_one a) in
        subst (λ z. IsTrue (is_in_word (get_or table a 0) z)) e one
    back a b l (x ∷ s) h = absurd h.0

-- What is at most a is at most all that b is at most.
abbrev pub joined_row : List ℕ → ℕ → ℕ → ℕ → ℕ
joined_row table a b row = cond (is_in_word row a) (bit_or row (get_or table b 0)) row

module _ (n : ℕ) (pairs : List (ℕ × ℕ)) (table : List ℕ) (closed : IsClosure n pairs table) (a b : ℕ) (a_below : a < n) (b_below : b < n) where
  -- A pair that a walk leads through already adds none.
  pub closure_known : IsTrue (is_below table a b) → IsClosure n (pairs ++ (a, b) ∷ []) table
  closure_known h = record {
    size = closed.size;
    walks = λ i j l. (λ t. walk_more pairs ((a, b) ∷ []) i j ((closed.walks i j l).0 t), λ w. (closed.walks i j l).1 (through i j (walk_led pairs a b i j w)));
  }
    where
      through : (i j : ℕ) → Led pairs a b i j → Walk pairs i j
      through i j (inl w) = w
      through i j (inr w) = walk_join pairs i a j w.0 (walk_join pairs a b j ((closed.walks a b a_below).0 h) w.1)

  joined_has : (row j : ℕ) → is_in_word (joined_row table a b row) j ≡ is_in_word row j || (is_in_word row a && is_in_word (get_or table b 0) j)
  joined_has row j = go (is_in_word row a) refl
    where
      go : (t : Bool) → is_in_word row a ≡ t → is_in_word (cond t (bit_or row (get_or table b 0)) row) j ≡ is_in_word row j || (t && is_in_word (get_or table b 0) j)
      go true e = has_or row (get_or table b 0) j
      go false e = same (is_in_word row j)
        where
          same : (t : Bool) → t ≡ t || false
          same true = refl
          same false = refl

  pub closure_joined : IsClosure n (pairs ++ (a, b) ∷ []) (map (joined_row table a b) table)
  closure_joined = record { size = length-map table (joined_row table a b) ∙ closed.size; walks = λ i j l. (there i j l, λ w. back i j l (walk_led pairs a b i j w)) }
    where
      row_is : (i j : ℕ) → i < n → is_below (map (joined_row table a b) table) i j ≡ is_below table i j || (is_below table i a && is_below table b j)
      row_is i j l =
          let within : i < length table = subst (λ z. i < z) (sym closed.size) l in
          ap (λ row. is_in_word row j) (get_or-map (joined_row table a b) table i 0 0 within) ∙ joined_has (get_or table i 0) j

      there : (i j : ℕ) → i < n → IsTrue (is_below (map (joined_row table a b) table) i j) → Walk (pairs ++ (a, b) ∷ []) i j
      there i j l h = led_walk pairs a b i j (go (or_cases _ _ (sym (row_is i j l) ∙ h)))
        where
          go : IsTrue (is_below table i j) ⊎ IsTrue (is_below table i a && is_below table b j) → Led pairs a b i j
          go (inl t) = inl ((closed.walks i j l).0 t)
          go (inr t) = inr ((closed.walks i a l).0 (first _ _ t), (closed.walks b j b_below).0 (second (is_below table i a) _ t))

      back : (i j : ℕ) → i < n → Led pairs a b i j → IsTrue (is_below (map (joined_row table a b) table) i j)
      back i j l (inl w) =
          let yes : is_below table i j ≡ true = (closed.walks i j l).1 w in row_is i j l ∙ rw yes refl
      back i j l (inr w) =
          let yes : is_below table i a ≡ true = (closed.walks i a l).1 w.0 in
          let too : is_below table b j ≡ true = (closed.walks b j b_below).1 w.1 in
          row_is i j l ∙ rw (yes, too) (or-true (is_below table i j))

module _ (n : ℕ) (pairs : List (ℕ × ℕ)) (i : ℕ) (within : i < length pairs) (below : IsTrue (list_all (is_pair_below n) pairs)) where
  below_n : IsTrue (is_pair_below n (get_or pairs i (0, 0)))
  below_n = all_at (is_pair_below n) pairs i (0, 0) below within

  pub first_below : (get_or pairs i (0, 0)).0 < n
  first_below = (both_below n (get_or pairs i (0, 0)) below_n).0

  second_below : (get_or pairs i (0, 0)).1 < n
  second_below = (both_below n (get_or pairs i (0, 0)) below_n).1

  -- One pair more, whether it adds walks or not.
  module _ (table made : List ℕ) (closed : IsClosure n (take i pairs) table) where
    more : IsClosure n (take i pairs ++ get_or pairs i (0, 0) ∷ []) made → IsClosure n (take (i + 1) pairs) made
    more h = subst (λ ps. IsClosure n ps made) (sym (take_more pairs i (0, 0) within)) h

    pub pair_known : IsTrue (is_below table (get_or pairs i (0, 0)).0 (get_or pairs i (0, 0)).1) → made ≡ table → IsClosure n (take (i + 1) pairs) made
    pair_known h e = more (subst (IsClosure n (take i pairs ++ get_or pairs i (0, 0) ∷ [])) (sym e) (closure_known n (take i pairs) table closed _ _ first_below second_below h))

    pub pair_joined : made ≡ map (joined_row table (get_or pairs i (0, 0)).0 (get_or pairs i (0, 0)).1) table → IsClosure n (take (i + 1) pairs) made
    pair_joined e = more (subst (IsClosure n (take i pairs ++ get_or pairs i (0, 0) ∷ [])) (sym e) (closure_joined n (take i pairs) table closed _ _ first_below second_below))

-- A row more of a table in place.
pub row_joined : (f : ℕ → ℕ) (old table : List ℕ) (i row : ℕ) → i < length table → i < length old → table ≡ map f (take i old) ++ drop i old → f (get_or table i 0) ≡ row
    → set table i row ≡ map f (take (i + 1) old) ++ drop (i + 1) old
row_joined f old table i row k l so_far e = ap (set table i) (sym e) ∙ map_over_more f old table i (get_or table i 0) l so_far (get_or_default table i 0 _ k)

-- Where no two different elements are related both ways, the walks make an order.
pub closure_table : (n : ℕ) (pairs : List (ℕ × ℕ)) (table : List ℕ) → IsTrue (list_all (is_pair_below n) pairs) → IsClosure n pairs table → 1 ≤ n → n ≤ 64 → NoneMutual (is_below table) (length table) → IsTable table
closure_table n pairs table below closed some few none = record {
  some = omega (arith, closed.size);
  few = omega (arith, closed.size);
  order = record {
    reflexive = λ x h. (closed.walks x x (within x h)).1 (walk_none pairs x);
    transitive = λ x y z h k l p q. (closed.walks x z (within x h)).1
        (walk_join pairs x y z ((closed.walks x y (within x h)).0 p) ((closed.walks y z (within y k)).0 q));
    antisymmetric = λ x y h k p q. same x y h k p q (cases_order x y);
  };
  within = λ x y h p. let w = (closed.walks x y (within x h)).0 p in let l = walk_within n pairs below x w.0 y (within x h) w.1 in lt-ltb y (length table) (omega (arith, closed.size));
}
  where
    within : (x : ℕ) → IsTrue (is_element table x) → x < n
    within x h = let l = ltb-true x (length table) h in omega (arith, closed.size)

    same : (x y : ℕ) → IsTrue (is_element table x) → IsTrue (is_element table y) → IsTrue (is_below table x y) → IsTrue (is_below table y x) → (x ≡ y) ⊎ ((x < y) ⊎ (y < x)) → x ≡ y
    same x y h k p q (inl e) = e
    same x y h k p q (inr (inl l)) = absurd (none x y l (ltb-true _ _ k) (p, q))
    same x y h k p q (inr (inr l)) = absurd (none y x l (ltb-true _ _ h) (q, p))

-- The first two related both ways are the first cycle.
pub closure_cycle : (n : ℕ) (pairs : List (ℕ × ℕ)) (table : List ℕ) (a b : ℕ) → IsClosure n pairs table → IsFirstMutual (is_below table) (length table) a b → IsFirstCycle n pairs a b
closure_cycle n pairs table a b closed found = record {
  different = found.partner.above;
  within = b_below;
  both_ways = ((closed.walks a b a_below).0 found.partner.related.0, (closed.walks b a b_below).0 found.partner.related.1);
  first = λ x y l k w. order x y l k w (cases_lt a x);
}
  where
    b_below : b < n
    b_below = omega (arith, closed.size, found.partner.within)

    a_below : a < n
    a_below = omega (arith, closed.size, found.partner.above, found.partner.within)

    related : (x y : ℕ) → x < y → y < n → BothWays pairs x y → AreMutual (is_below table) x y
    related x y l k w = let h : x < n = omega arith in ((closed.walks x y h).1 w.0, (closed.walks y x k).1 w.1)

    order : (x y : ℕ) → x < y → y < n → BothWays pairs x y → (a < x) ⊎ (x ≤ a) → (a < x) ⊎ (a ≡ x) × (b ≤ y)
    order x y l k w (inl h) = inl h
    order x y l k w (inr h) = inr (same, at_most (cases_lt y b))
      where
        same : a ≡ x
        same = let m = found.first x y l (omega (arith, closed.size)) (related x y l k w) in omega arith

        at_most : (y < b) ⊎ (b ≤ y) → b ≤ y
        at_most (inl m) = absurd (found.partner.first y (omega (arith, same)) m (subst (λ z. AreMutual (is_below table) z y) (sym same) (related x y l k w)))
        at_most (inr m) = m
