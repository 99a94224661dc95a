-- The rows of sets of chains: a round, and what the first round begins with and the last one ends with.
use Rattle.std.proofs.Common.{◌≡◌, ◌∙◌, ◌<◌, ◌≤◌, ◌+◌, ◌/◌, ◌%◌, arith, refl, sym, ap, subst, ℕ, Bool, true, false, ◌&&◌, ◌||◌, IsTrue, List, [], ◌++◌, ◌⊎◌, inl, inr, length, get_or, set, map, take, drop, cond, ◌↔◌}
use Rattle.std.proofs.lemmas.Bool.{cases_lt, or_cases}
use Rattle.std.proofs.lemmas.List.{length-map, get_or-map, get_or_past, get_or_default, get_or_read}
use Rattle.std.proofs.lemmas.List.Edits.{map_over_more}
use Rattle.std.specs.List.{list_all}
use Rattle.order_core.specs.MemberLaws.{first, second}
use Rattle.order_core.specs.Walk.{is_pair_below}
use Rattle.order_core.specs.WordLaws.{has_none}
use Rattle.reachability.specs.BitSets.{has_in, has_at, united}
use Rattle.reachability.specs.Rounds.{passed, AreRows, AreDirect, AreClosed}
use Rattle.reachability.proofs.BitSetLemmas.{has_in-united, length-united}
use Rattle.reachability.specs.ViaLaws.{Via, via_none, via_led, led_via, via_all}
use Rattle.std.proofs.Math.Bool.{or-true}

-- A row after a round.
passed_size : (k : ℕ) (beyond row : List ℕ) → length (passed k beyond row) ≡ length row
passed_size k beyond row = go (has_in row k)
  where
    go : (t : Bool) → length (cond t (united row beyond) row) ≡ length row
    go true = length-united row beyond
    go false = refl

passed_has : (k : ℕ) (beyond row : List ℕ) (x : ℕ) → length beyond ≡ length row → has_in (passed k beyond row) x ≡ has_in row x || (has_in row k && has_in beyond x)
passed_has k beyond row x e = go (has_in row k)
  where
    same : (t : Bool) → t ≡ t || false
    same true = refl
    same false = refl

    go : (t : Bool) → has_in (cond t (united row beyond) row) x ≡ has_in row x || (t && has_in beyond x)
    go true = has_in-united row beyond x e
    go false = same (has_in row x)

-- The rows have what chains with inner numbers below k lead to.
pub record AreVia (n : ℕ) (pairs : List (ℕ × ℕ)) (k : ℕ) (rows : List (List ℕ)) : Type 0 where
  pub shape : AreRows n rows
  pub via : (a b : ℕ) → IsTrue (has_at rows a b) ↔ Via pairs k a b

pub via_direct : (n : ℕ) (pairs : List (ℕ × ℕ)) (rows : List (List ℕ)) → AreDirect n pairs rows → AreVia n pairs 0 rows
via_direct n pairs rows direct = record {
  shape = direct.shape;
  via = λ a b. (λ h. (via_none pairs a b).1 ((direct.direct a b).0 h), λ v. (direct.direct a b).1 ((via_none pairs a b).0 v));
}

pub via_closed : (n : ℕ) (pairs : List (ℕ × ℕ)) (rows : List (List ℕ)) → IsTrue (list_all (is_pair_below n) pairs) → AreVia n pairs n rows → AreClosed pairs rows
via_closed n pairs rows below all = λ a b. (λ h. (via_all pairs n below a b).0 ((all.via a b).0 h), λ r. (all.via a b).1 ((via_all pairs n below a b).1 r))

module _ (n : ℕ) (pairs : List (ℕ × ℕ)) (k : ℕ) (rows : List (List ℕ)) (so_far : AreVia n pairs k rows) (within : k < n) where
  -- The rows after a round.
  abbrev pub round : List (List ℕ)
  round = map (passed k (get_or rows k [])) rows

  past : (xs : List (List ℕ)) (a b : ℕ) → length xs ≤ a → has_at xs a b ≡ false
  past xs a b l = ap (λ (r : List ℕ). has_in r b) (get_or_past xs a [] l) ∙ has_none (b % 64)

  round_at : (a b : ℕ) → has_at round a b ≡ has_at rows a b || (has_at rows a k && has_at rows k b)
  round_at a b = go (cases_lt a (length rows))
    where
      go : (a < length rows) ⊎ (length rows ≤ a) → has_at round a b ≡ has_at rows a b || (has_at rows a k && has_at rows k b)
      go (inl l) =
          let widths : length (get_or rows k []) ≡ length (get_or rows a []) = so_far.shape.widths k within ∙ sym (so_far.shape.widths a (omega (arith, so_far.shape.size))) in
          ap (λ (r : List ℕ). has_in r b) (get_or-map (passed k (get_or rows k [])) rows a [] [] l) ∙ passed_has k (get_or rows k []) (get_or rows a []) b widths
      go (inr l) =
          let none = past round a b (omega (arith, length-map rows (passed k (get_or rows k [])))) in
          let one = past rows a b l in
          let two = past rows a k l in
          none ∙ sym (rw (one, two) refl)

  pub via_more : AreVia n pairs (k + 1) round
  via_more = record {
    shape = record { size = length-map rows (passed k (get_or rows k [])) ∙ so_far.shape.size; widths = widths };
    via = λ a b. (λ h. led_via pairs k a b (there a b (or_cases _ _ (sym (round_at a b) ∙ h))), λ v. back a b (via_led pairs k a b v));
  }
    where
      widths : (a : ℕ) → a < n → length (get_or round a []) ≡ n / 64 + 1
      widths a l =
          let inside : a < length rows = omega (arith, so_far.shape.size) in
          ap length (get_or-map (passed k (get_or rows k [])) rows a [] [] inside) ∙ passed_size k (get_or rows k []) (get_or rows a []) ∙ so_far.shape.widths a l

      there : (a b : ℕ) → IsTrue (has_at rows a b) ⊎ IsTrue (has_at rows a k && has_at rows k b) → Via pairs k a b ⊎ (Via pairs k a k × Via pairs k k b)
      there a b (inl t) = inl ((so_far.via a b).0 t)
      there a b (inr t) = inr ((so_far.via a k).0 (first _ _ t), (so_far.via k b).0 (second (has_at rows a k) _ t))

      back : (a b : ℕ) → Via pairs k a b ⊎ (Via pairs k a k × Via pairs k k b) → IsTrue (has_at round a b)
      back a b (inl v) = let yes : has_at rows a b ≡ true = (so_far.via a b).1 v in round_at a b ∙ rw yes refl
      back a b (inr v) =
          let yes : has_at rows a k ≡ true = (so_far.via a k).1 v.0 in
          let too : has_at rows k b ≡ true = (so_far.via k b).1 v.1 in
          round_at a b ∙ rw (yes, too) (or-true (has_at rows a b))

-- The rows after a round, as the code makes them of the row that it reads.
pub via_round : (n : ℕ) (pairs : List (ℕ × ℕ)) (k : ℕ) (rows : List (List ℕ)) → AreVia n pairs k rows → k < n → (read : List ℕ) → read ≡ get_or rows k read → (made : List (List ℕ))
    → made ≡ map (passed k read) rows → AreVia n pairs (k + 1) made
via_round n pairs k rows so_far within read is made made_is =
    let inside : k < length rows = omega (arith, so_far.shape.size) in
    let beyond : read ≡ get_or rows k [] = get_or_read rows k read inside is [] in
    subst (AreVia n pairs (k + 1)) (sym (made_is ∙ ap (λ (row : List ℕ). map (passed k row) rows) beyond)) (via_more n pairs k rows so_far within)

-- One row more of a round in place.
pub row_passed : (f : List ℕ → List ℕ) (old rows : List (List ℕ)) (i : ℕ) (row : List ℕ) → i < length rows → i < length old → rows ≡ map f (take i old) ++ drop i old → f (get_or rows i []) ≡ row
    → set rows i row ≡ map f (take (i + 1) old) ++ drop (i + 1) old
row_passed f old rows i row k l so_far e = ap (set rows i) (sym e) ∙ map_over_more f old rows i (get_or rows i []) l so_far (get_or_default rows i [] _ k)
