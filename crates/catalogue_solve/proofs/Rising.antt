-- The minimal rows of a list in print order are in print order, each once.
use Rattle.std.proofs.Common.{◌≡◌, ◌∙◌, refl, sym, ap, ℕ, suc, ◌<◌, ◌≤◌, Bool, true, false, ◌&&◌, ◌||◌, not, IsTrue, List, [], ◌∷◌, length, get_or, cond, arith, inl, inr}
use Rattle.std.specs.List.{list_all, list_any}
use Rattle.std.specs.List.Sorted.{IsSortedBy}
use Rattle.std.specs.Ordering.{is_lt, ordering_reverse}
use Rattle.std.specs.declared.cmp.Ordering.{Ordering}
use Rattle.std.specs.declared.cmp.Ordering.TheVariants.{Less, Equal, Greater}
use Rattle.std.proofs.lemmas.List.Sorted.{sorted_far}
use Rattle.std.proofs.lemmas.List.Sums.{list_all-from_AllPass}
use Rattle.value_type.specs.declared.value.Value.{Value}
use Rattle.order_core.specs.Members.{IsMember}
use Rattle.order_core.specs.MemberLaws.{first, second, both, all_intro, all_elim, true_not, not_both}
use Rattle.antichain.specs.Minima.{is_less, kept}
use Rattle.value_type.specs.PrintOrder.{row_cmp, is_before, are_rising}
use Rattle.order_core.specs.TotalOrderLaws.{weak}
use Rattle.value_type.specs.PrintLaws.{row_total, row_same}

-- No row comes before one that stands ahead of it.
abbrev pub are_sorted : List (List Value) → Bool
are_sorted [] = true
are_sorted (x ∷ xs) = list_all (λ z. not (is_before z x)) xs && are_sorted xs

sorted_at : (xs : List (List Value)) → ((i j : ℕ) (d : List Value) → i ≤ j → j < length xs → is_before (get_or xs j d) (get_or xs i d) ≡ false) → IsTrue (are_sorted xs)
sorted_at [] h = refl
sorted_at (x ∷ xs) h = both _ _
    (list_all-from_AllPass (λ z. not (is_before z x)) xs (λ k d inside. true_not _ (h 0 (suc k) d (omega arith) (omega arith))))
    (sorted_at xs (λ i j d le inside. h (suc i) (suc j) d (omega arith) (omega arith)))

pub sorted_pairs : (xs : List (List Value)) → IsSortedBy is_before xs → IsTrue (are_sorted xs)
sorted_pairs xs up = sorted_at xs (λ i j d le inside. sorted_far is_before (weak row_cmp row_total) xs up i j d le inside)

left_false : (a b : Bool) → (a || b) ≡ false → a ≡ false
left_false true b h = absurd (cc)
left_false false b h = refl

right_false : (a b : Bool) → (a || b) ≡ false → b ≡ false
right_false true b h = absurd (cc)
right_false false b h = h

module _ (leq : List Value → List Value → Bool) where
  kept_facts : (before xs : List (List Value)) (z : List Value) → IsMember z (kept leq before xs) → IsMember z xs × (list_any (λ y. leq y z) before ≡ false)
  kept_facts before [] z m = absurd m
  kept_facts before (x ∷ xs) z m =
      go (list_any (λ y. leq y x) before || list_any (λ y. is_less leq y x) xs) refl (kept_facts (x ∷ before) xs z) m
    where
      later : IsMember z xs × (list_any (λ y. leq y z) (x ∷ before) ≡ false) → IsMember z (x ∷ xs) × (list_any (λ y. leq y z) before ≡ false)
      later p = (inr p.0, right_false (leq x z) _ p.1)

      go : (b : Bool) → (list_any (λ y. leq y x) before || list_any (λ y. is_less leq y x) xs) ≡ b
          → (IsMember z (kept leq (x ∷ before) xs) → IsMember z xs × (list_any (λ y. leq y z) (x ∷ before) ≡ false))
          → IsMember z (cond b (kept leq (x ∷ before) xs) (x ∷ kept leq (x ∷ before) xs)) → IsMember z (x ∷ xs) × (list_any (λ y. leq y z) before ≡ false)
      go true e ih k = later (ih k)
      go false e ih (inl f) = (inl f, rw f (left_false _ _ e))
      go false e ih (inr k) = later (ih k)

  -- Of two rows that are neither the same nor printed the other way round, the first is printed before.
  ahead : (x z : List Value) → IsTrue (not (is_before z x)) → (x ≡ z → ⊥) → IsTrue (is_before x z)
  ahead x z h differ = go (row_cmp x z) refl
    where
      go : (o : Ordering) → row_cmp x z ≡ o → IsTrue (is_lt (row_cmp x z))
      go Less e = ap is_lt e
      go Equal e = absurd (differ (row_same x z e))
      go Greater e = absurd (not_both (is_before z x) h (ap is_lt (row_total.antisymm z x ∙ ap ordering_reverse e)))

  pub kept_rising : (before xs : List (List Value)) → ((x : List Value) → IsMember x xs → IsTrue (leq x x)) → IsTrue (are_sorted xs) → IsTrue (are_rising (kept leq before xs))
  kept_rising before [] r h = refl
  kept_rising before (x ∷ xs) r h =
      go (list_any (λ y. leq y x) before || list_any (λ y. is_less leq y x) xs)
      (kept_rising (x ∷ before) xs (λ y m. r y (inr m)) (second (list_all (λ z. not (is_before z x)) xs) _ h))
    where
      differs : (z : List Value) → leq x z ≡ false → x ≡ z → ⊥
      differs z f e = let yes : leq x z ≡ true = sym (ap (leq x) e) ∙ r x (inl refl) in cc

      after : (z : List Value) → IsMember z (kept leq (x ∷ before) xs) → IsTrue (is_before x z)
      after z m =
          let k = kept_facts (x ∷ before) xs z m in
          ahead x z (all_elim (λ z. not (is_before z x)) xs z (first _ _ h) k.0) (differs z (left_false (leq x z) _ k.1))

      go : (b : Bool) → IsTrue (are_rising (kept leq (x ∷ before) xs)) → IsTrue (are_rising (cond b (kept leq (x ∷ before) xs) (x ∷ kept leq (x ∷ before) xs)))
      go true ih = ih
      go false ih = both _ _ (all_intro (is_before x) (kept leq (x ∷ before) xs) after) ih
