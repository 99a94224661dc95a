-- The rows of sets of the pairs: of none, and of one pair more.
use Rattle.std.proofs.Common.{◌≡◌, ◌∙◌, ◌≢◌, ◌<◌, ◌+◌, ◌/◌, ◌%◌, arith, refl, sym, ap, subst, ℕ, zero, suc, true, false, ◌||◌, IsTrue, List, [], ◌∷◌, ◌++◌, ◌⊎◌, inl, inr, length, get_or, set, take, replicate, nat_eq, None, slice_get, get_or-set_same, get_or-set_other}
use Rattle.std.proofs.lemmas.Bool.{cases_eq, eq-eqb, ne_eqb, or_cases}
use Rattle.std.proofs.lemmas.List.{length-set, length-replicate, get_or-replicate, get_or_read, take_more}
use Rattle.std.specs.List.{list_all}
use Rattle.order_core.specs.MemberLaws.{all_at, mem-left, mem-right, mem-split}
use Rattle.order_core.specs.Members.{IsMember}
use Rattle.order_core.specs.Walk.{is_pair_below}
use Rattle.order_core.specs.WordLaws.{has_none}
use Rattle.reachability.specs.BitSets.{has_in, has_at}
use Rattle.reachability.specs.Rounds.{AreRows, AreDirect}
use Rattle.reachability.proofs.BitSetLemmas.{has_in-none}
use Rattle.order_core.specs.WalkLaws.{both_below}
use Rattle.std.proofs.Math.Bool.{or-true}

-- Rows without a number.
empty_at : (n w a b : ℕ) → has_at (replicate n (replicate w 0)) a b ≡ false
empty_at zero w a b = has_none (b % 64)
empty_at (suc n) w zero b = has_in-none w b
empty_at (suc n) w (suc a) b = empty_at n w a b

pub direct_none : (n : ℕ) → AreDirect n [] (replicate n (replicate (n / 64 + 1) 0))
direct_none n = record {
  shape = record {
    size = length-replicate n (replicate (n / 64 + 1) 0);
    widths = λ k l. ap length (get_or-replicate n k (replicate (n / 64 + 1) 0) [] l) ∙ length-replicate (n / 64 + 1) 0;
  };
  direct = λ a b. (λ h. let no = empty_at n (n / 64 + 1) a b in absurd (cc), λ m. absurd m);
}

-- No row, no number.
pub past_get : (rows : List (List ℕ)) (a b : ℕ) → None ≡ slice_get rows a → has_at rows a b ≡ false
past_get [] a b e = has_none (b % 64)
past_get (row ∷ rows) zero b e = absurd (cc)
past_get (row ∷ rows) (suc a) b e = past_get rows a b e

-- A row of which a number is written, and the others.
module _ (rows : List (List ℕ)) (a : ℕ) (within : a < length rows) (row : List ℕ) where
  written : (x y : ℕ) → x ≡ a → has_at (set rows a row) x y ≡ has_in row y
  written x y e = ap (λ (r : List ℕ). has_in r y) (subst (λ (z : ℕ). get_or (set rows a row) z [] ≡ row) (sym e) (get_or-set_same rows a row [] within))

  kept : (x y : ℕ) → x ≢ a → has_at (set rows a row) x y ≡ has_at rows x y
  kept x y n = ap (λ (r : List ℕ). has_in r y) (get_or-set_other rows a x row [] n)

  pub shape_written : (n : ℕ) → AreRows n rows → length row ≡ length (get_or rows a []) → AreRows n (set rows a row)
  shape_written n shape e = record { size = length-set rows a row ∙ shape.size; widths = λ k l. go k l (cases_eq k a) }
    where
      go : (k : ℕ) → k < n → (k ≡ a) ⊎ (k ≡ a → ⊥) → length (get_or (set rows a row) k []) ≡ n / 64 + 1
      go k l (inl f) =
          let at : get_or (set rows a row) k [] ≡ row = subst (λ (z : ℕ). get_or (set rows a row) z [] ≡ row) (sym f) (get_or-set_same rows a row [] within) in
          ap length at ∙ e ∙ shape.widths a (omega (arith, shape.size))
      go k l (inr f) = ap length (get_or-set_other rows a k row [] f) ∙ shape.widths k l

  pub direct_more : (n : ℕ) (pairs : List (ℕ × ℕ)) (b : ℕ) → AreDirect n pairs rows → length row ≡ length (get_or rows a [])
      → ((x : ℕ) → has_in row x ≡ has_in (get_or rows a []) x || nat_eq x b) → AreDirect n (pairs ++ (a, b) ∷ []) (set rows a row)
  direct_more n pairs b so_far size has_row = record { shape = shape_written n so_far.shape size; direct = λ x y. (there x y (cases_eq x a), λ m. back x y (cases_eq x a) (mem-split pairs ((a, b) ∷ []) (x, y) m)) }
    where
      old : (x y : ℕ) → IsTrue (has_at rows x y) → IsMember {A = ℕ × ℕ} (x, y) (pairs ++ (a, b) ∷ [])
      old x y h = mem-left pairs ((a, b) ∷ []) (x, y) ((so_far.direct x y).0 h)

      there : (x y : ℕ) → (x ≡ a) ⊎ (x ≡ a → ⊥) → IsTrue (has_at (set rows a row) x y) → IsMember {A = ℕ × ℕ} (x, y) (pairs ++ (a, b) ∷ [])
      there x y (inr f) h = old x y (sym (kept x y f) ∙ h)
      there x y (inl e) h = go (or_cases (has_at rows a y) (nat_eq y b) (sym (has_row y) ∙ sym (written x y e) ∙ h)) (cases_eq y b)
        where
          go : IsTrue (has_at rows a y) ⊎ IsTrue (nat_eq y b) → (y ≡ b) ⊎ (y ≡ b → ⊥) → IsMember {A = ℕ × ℕ} (x, y) (pairs ++ (a, b) ∷ [])
          go (inl t) d = old x y (subst (λ (z : ℕ). IsTrue (has_at rows z y)) (sym e) t)
          go (inr t) (inl f) = mem-right pairs ((a, b) ∷ []) (x, y) (inl (cc))
          go (inr t) (inr f) = let no = ne_eqb y b f in absurd (cc)

      back : (x y : ℕ) → (x ≡ a) ⊎ (x ≡ a → ⊥) → IsMember {A = ℕ × ℕ} (x, y) pairs ⊎ IsMember {A = ℕ × ℕ} (x, y) ((a, b) ∷ []) → IsTrue (has_at (set rows a row) x y)
      back x y (inl e) (inl m) =
          let yes : has_at rows a y ≡ true = subst (λ (z : ℕ). IsTrue (has_at rows z y)) e ((so_far.direct x y).1 m) in
          written x y e ∙ has_row y ∙ rw yes refl
      back x y (inl e) (inr (inl f)) =
          let same : y ≡ b = ap (λ (p : ℕ × ℕ). p.1) f in
          let yes : nat_eq y b ≡ true = eq-eqb y b same in
          written x y e ∙ has_row y ∙ rw yes (or-true (has_in (get_or rows a []) y))
      back x y (inl e) (inr (inr m)) = absurd m
      back x y (inr f) (inl m) = kept x y f ∙ (so_far.direct x y).1 m
      back x y (inr f) (inr (inl e)) = absurd (f (ap (λ (p : ℕ × ℕ). p.0) e))
      back x y (inr f) (inr (inr m)) = absurd m

-- The row of a pair, as the code reads it, and the rows with the pair, as it writes it.
module _ (n : ℕ) (pairs : List (ℕ × ℕ)) (i : ℕ) (within : i < length pairs) (below : IsTrue (list_all (is_pair_below n) pairs)) where
  abbrev pub pair_at : ℕ × ℕ
  pair_at = get_or pairs i (0, 0)

  at_below : (pair_at.0 < n) × (pair_at.1 < n)
  at_below = both_below n pair_at (all_at (is_pair_below n) pairs i (0, 0) below within)

  module _ (rows : List (List ℕ)) (so_far : AreDirect n (take i pairs) rows) (read : List ℕ) (is : read ≡ get_or rows pair_at.0 read) where
    inside : pair_at.0 < length rows
    inside = omega (arith, so_far.shape.size, at_below.0)

    is_row : read ≡ get_or rows pair_at.0 []
    is_row = get_or_read rows pair_at.0 read inside is []

    pub pair_has_room : pair_at.1 / 64 < length read
    pair_has_room =
        let width : length read ≡ n / 64 + 1 = ap length is_row ∙ so_far.shape.widths pair_at.0 at_below.0 in
        omega (arith, at_below.1)

    pub pair_put : (row : List ℕ) → length row ≡ length read → ((x : ℕ) → has_in row x ≡ has_in read x || nat_eq x pair_at.1) → AreDirect n (take (i + 1) pairs) (set rows pair_at.0 row)
    pair_put row size has_row =
        let has_old = λ (x : ℕ). has_row x ∙ ap (λ (r : List ℕ). has_in r x || nat_eq x pair_at.1) is_row in
        let more = direct_more rows pair_at.0 inside row n (take i pairs) pair_at.1 so_far (size ∙ ap length is_row) has_old in
        subst (λ (ps : List (ℕ × ℕ)). AreDirect n ps (set rows pair_at.0 row)) (sym (take_more pairs i (0, 0) within)) more
