-- Chains whose inner numbers are all below a bound: the bound rises from none at all to all numbers.
use Rattle.std.proofs.Common.{◌≡◌, ◌<◌, ◌≤◌, ◌+◌, arith, refl, subst, ℕ, IsTrue, List, [], ◌∷◌, ◌++◌, ◌⊎◌, inl, inr}
use Rattle.std.proofs.lemmas.Bool.{cases_lt}
use Rattle.std.specs.List.{list_all}
use Rattle.std.specs.Prelude.{◌↔◌}
use Rattle.order_core.specs.Members.{IsMember}
use Rattle.order_core.specs.Walk.{WalksAlong, is_pair_below}
use Rattle.reachability.specs.Reaches.{Reaches}
use Rattle.order_core.specs.WalkLaws.{pair_within}

-- From a, through the inner numbers in turn, each below k, to b.
abbrev pub Along : List (ℕ × ℕ) → ℕ → ℕ → List ℕ → ℕ → Type 0
Along pairs k a [] b = IsMember {A = ℕ × ℕ} (a, b) pairs
Along pairs k a (x ∷ inner) b = (x < k) × IsMember {A = ℕ × ℕ} (a, x) pairs × Along pairs k x inner b

-- Some chain of one pair at least leads from a to b, with inner numbers below k alone.
abbrev pub Via : List (ℕ × ℕ) → ℕ → ℕ → ℕ → Type 0
Via pairs k a b = (inner : List ℕ) × Along pairs k a inner b

module _ (pairs : List (ℕ × ℕ)) where
  pub via_none : (a b : ℕ) → Via pairs 0 a b ↔ IsMember {A = ℕ × ℕ} (a, b) pairs
  via_none a b = (λ v. there v.0 v.1, λ m. ([], m))
    where
      there : (inner : List ℕ) → Along pairs 0 a inner b → IsMember {A = ℕ × ℕ} (a, b) pairs
      there [] m = m
      there (x ∷ inner) h = let l : x < 0 = h.0 in absurd (omega arith)

  -- With k among the inner numbers too, chains lead where they led, and from whatever led to k to wherever k led.
  abbrev pub Led : ℕ → ℕ → ℕ → Type 0
  Led k a b = Via pairs k a b ⊎ (Via pairs k a k × Via pairs k k b)

  lower_step : (k a x b : ℕ) → x < k → IsMember {A = ℕ × ℕ} (a, x) pairs → Led k x b → Led k a b
  lower_step k a x b l m (inl v) = inl (x ∷ v.0, (l, m, v.1))
  lower_step k a x b l m (inr v) = inr ((x ∷ v.0.0, (l, m, v.0.1)), v.1)

  new_step : (k a x b : ℕ) → x ≡ k → IsMember {A = ℕ × ℕ} (a, x) pairs → Led k x b → Led k a b
  new_step k a x b e m (inl v) = inr (([], subst (λ (z : ℕ). IsMember {A = ℕ × ℕ} (a, z) pairs) e m), subst (λ (z : ℕ). Via pairs k z b) e v)
  new_step k a x b e m (inr v) = inr (([], subst (λ (z : ℕ). IsMember {A = ℕ × ℕ} (a, z) pairs) e m), v.1)

  along_led : (k a : ℕ) (inner : List ℕ) (b : ℕ) → Along pairs (k + 1) a inner b → Led k a b
  along_led k a [] b m = inl ([], m)
  along_led k a (x ∷ inner) b h = go (cases_lt x k) (along_led k x inner b h.2)
    where
      go : (x < k) ⊎ (k ≤ x) → Led k x b → Led k a b
      go (inl l) led = lower_step k a x b l h.1 led
      go (inr l) led = let within : x < k + 1 = h.0 in let same : x ≡ k = omega arith in new_step k a x b same h.1 led

  pub via_led : (k a b : ℕ) → Via pairs (k + 1) a b → Led k a b
  via_led k a b v = along_led k a v.0 b v.1

  along_more : (k a : ℕ) (inner : List ℕ) (b : ℕ) → Along pairs k a inner b → Along pairs (k + 1) a inner b
  along_more k a [] b m = m
  along_more k a (x ∷ inner) b h = let l : x < k = h.0 in (omega arith, h.1, along_more k x inner b h.2)

  along_join : (k a : ℕ) (inner : List ℕ) (b : ℕ) (beyond : List ℕ) → Along pairs k a inner k → Along pairs k k beyond b → Along pairs (k + 1) a (inner ++ k ∷ beyond) b
  along_join k a [] b beyond m h = (omega arith, m, along_more k k beyond b h)
  along_join k a (x ∷ inner) b beyond m h = let l : x < k = m.0 in (omega arith, m.1, along_join k x inner b beyond m.2 h)

  pub led_via : (k a b : ℕ) → Led k a b → Via pairs (k + 1) a b
  led_via k a b (inl v) = (v.0, along_more k a v.0 b v.1)
  led_via k a b (inr v) = (v.0.0 ++ k ∷ v.1.0, along_join k a v.0.0 b v.1.0 v.0.1 v.1.1)

  -- Where all pairs are below n, each chain has inner numbers below n alone.
  module _ (n : ℕ) (below : IsTrue (list_all (is_pair_below n) pairs)) where
    along_reaches : (a : ℕ) (inner : List ℕ) (b : ℕ) → Along pairs n a inner b → Reaches pairs a b
    along_reaches a [] b m = (b, m, ([], refl))
    along_reaches a (x ∷ inner) b h = let r = along_reaches x inner b h.2 in (x, h.1, (r.0 ∷ r.2.0, (r.1, r.2.1)))

    walk_via : (a next : ℕ) (steps : List ℕ) (b : ℕ) → IsMember {A = ℕ × ℕ} (a, next) pairs → WalksAlong pairs next steps b → Via pairs n a b
    walk_via a next [] b m e = ([], subst (λ (z : ℕ). IsMember {A = ℕ × ℕ} (a, z) pairs) e m)
    walk_via a next (x ∷ steps) b m h = let v = walk_via next x steps b h.0 h.1 in (next ∷ v.0, ((pair_within n pairs below a next m).1, m, v.1))

    pub via_all : (a b : ℕ) → Via pairs n a b ↔ Reaches pairs a b
    via_all a b = (λ v. along_reaches a v.0 b v.1, λ r. walk_via a r.0 r.2.0 b r.1 r.2.1)
