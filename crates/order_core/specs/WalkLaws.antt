-- Walks one after another, and by more pairs.
use Rattle.std.proofs.Common.{◌≡◌, refl, sym, ap, subst, ℕ, List, [], ◌∷◌, ◌++◌, ◌⊎◌, inl, inr}
use Rattle.order_core.specs.MemberLaws.{mem-left, mem-right, mem-split, all_elim, first, second}
use Rattle.order_core.specs.Members.{IsMember}
use Rattle.order_core.specs.Walk.{WalksAlong, Walk, is_pair_below}
use Rattle.std.proofs.lemmas.Bool.{ltb-true}
use Rattle.std.specs.List.{list_all}
use Rattle.std.specs.Prelude.{nat_lt, ◌<◌, IsTrue}

pub walk_none : (pairs : List (ℕ × ℕ)) (a : ℕ) → Walk pairs a a
walk_none pairs a = ([], refl)

along-join : (pairs : List (ℕ × ℕ)) (a b c : ℕ) (s t : List ℕ) → WalksAlong pairs a s b → WalksAlong pairs b t c → WalksAlong pairs a (s ++ t) c
along-join pairs a b c [] t h k = subst (λ z. WalksAlong pairs z t c) (sym h) k
along-join pairs a b c (x ∷ s) t h k = (h.0, along-join pairs x b c s t h.1 k)

pub walk_join : (pairs : List (ℕ × ℕ)) (a b c : ℕ) → Walk pairs a b → Walk pairs b c → Walk pairs a c
walk_join pairs a b c h k = (h.0 ++ k.0, along-join pairs a b c h.0 k.0 h.1 k.1)

along-more : (pairs more : List (ℕ × ℕ)) (a b : ℕ) (s : List ℕ) → WalksAlong pairs a s b → WalksAlong (pairs ++ more) a s b
along-more pairs more a b [] h = h
along-more pairs more a b (x ∷ s) h = (mem-left pairs more (a, x) h.0, along-more pairs more x b s h.1)

pub walk_more : (pairs more : List (ℕ × ℕ)) (a b : ℕ) → Walk pairs a b → Walk (pairs ++ more) a b
walk_more pairs more a b h = (h.0, along-more pairs more a b h.0 h.1)

-- With one pair more, walks lead where they led, and from whatever led to its first number to wherever its second number led.
module _ (pairs : List (ℕ × ℕ)) (a b : ℕ) where
  abbrev pub Led : ℕ → ℕ → Type 0
  Led i j = Walk pairs i j ⊎ (Walk pairs i a × Walk pairs b j)

  known_step : (i x j : ℕ) → IsMember {A = ℕ × ℕ} (i, x) pairs → Led x j → Led i j
  known_step i x j m (inl w) = inl (x ∷ w.0, (m, w.1))
  known_step i x j m (inr w) = inr ((x ∷ w.0.0, (m, w.0.1)), w.1)

  new_step : (i x j : ℕ) → i ≡ a → x ≡ b → Led x j → Led i j
  new_step i x j e f (inl w) = inr (([], e), subst (λ z. Walk pairs z j) f w)
  new_step i x j e f (inr w) = inr (([], e), w.1)

  along_led : (i j : ℕ) (s : List ℕ) → WalksAlong (pairs ++ (a, b) ∷ []) i s j → Led i j
  along_led i j [] h = inl ([], h)
  along_led i j (x ∷ s) h = go (mem-split pairs ((a, b) ∷ []) (i, x) h.0) (along_led x j s h.1)
    where
      go : IsMember {A = ℕ × ℕ} (i, x) pairs ⊎ IsMember {A = ℕ × ℕ} (i, x) ((a, b) ∷ []) → Led x j → Led i j
      go (inl m) w = known_step i x j m w
      go (inr (inr m)) w = absurd m
      go (inr (inl e)) w = new_step i x j (ap (λ (p : ℕ × ℕ). p.0) e) (ap (λ (p : ℕ × ℕ). p.1) e) w

  pub walk_led : (i j : ℕ) → Walk (pairs ++ (a, b) ∷ []) i j → Led i j
  walk_led i j h = along_led i j h.0 h.1

  pub led_walk : (i j : ℕ) → Led i j → Walk (pairs ++ (a, b) ∷ []) i j
  led_walk i j (inl w) = walk_more pairs ((a, b) ∷ []) i j w
  led_walk i j (inr w) =
      let all = pairs ++ (a, b) ∷ [] in
      let step : Walk all a b = (b ∷ [], (mem-right pairs ((a, b) ∷ []) (a, b) (inl refl), refl)) in
      let before = walk_more pairs ((a, b) ∷ []) i a w.0 in
      let after = walk_more pairs ((a, b) ∷ []) b j w.1 in
      walk_join all i a j before (walk_join all a b j step after)

-- Walks through pairs below n stay below it.
pub both_below : (n : ℕ) (pair : ℕ × ℕ) → IsTrue (is_pair_below n pair) → (pair.0 < n) × (pair.1 < n)
both_below n pair h = (ltb-true pair.0 n (first _ _ h), ltb-true pair.1 n (second (nat_lt pair.0 n) _ h))

module _ (n : ℕ) (pairs : List (ℕ × ℕ)) (below : IsTrue (list_all (is_pair_below n) pairs)) where
  pub pair_within : (a b : ℕ) → IsMember {A = ℕ × ℕ} (a, b) pairs → (a < n) × (b < n)
  pair_within a b m = both_below n (a, b) (all_elim {A = ℕ × ℕ} (is_pair_below n) pairs (a, b) below m)

  pub walk_within : (a : ℕ) (steps : List ℕ) (b : ℕ) → a < n → WalksAlong pairs a steps b → b < n
  walk_within a [] b l e = subst (λ (z : ℕ). z < n) e l
  walk_within a (x ∷ steps) b l h = walk_within x steps b (pair_within a x h.0).1 h.1
