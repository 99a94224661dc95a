-- What is worked out is where chains of pairs lead.
use Rattle.std.proofs.Common.{◌≡◌, ◌+◌, arith, refl, subst, ℕ, zero, suc, Bool, true, ◌&&◌, ◌||◌, IsTrue, List, ◌⊎◌, inl, inr, ◌↔◌}
use Rattle.std.proofs.lemmas.Bool.{or_cases, eqb-true, eq-eqb}
use Rattle.std.proofs.Math.Bool.{or-true}
use Rattle.std.specs.List.{list_all, list_any}
use Rattle.std.specs.Prelude.{nat_eq}
use Rattle.order_core.specs.MemberLaws.{first, second, both, any_elim, any_intro}
use Rattle.order_core.specs.Members.{IsMember}
use Rattle.order_core.specs.Walk.{is_pair_below}
use Rattle.reachability.specs.Leads.{is_pair, leads_through}
use Rattle.reachability.specs.Reaches.{Reaches}
use Rattle.reachability.specs.ViaLaws.{Via, via_none, via_led, led_via, via_all}

module _ (pairs : List (ℕ × ℕ)) where
  moved : (a b c d : ℕ) → a ≡ c → b ≡ d → IsMember {A = ℕ × ℕ} (c, d) pairs → IsMember {A = ℕ × ℕ} (a, b) pairs
  moved a b c d e f m = rw (e, f) m

  pair_listed : (a b : ℕ) → IsTrue (list_any (is_pair a b) pairs) → IsMember {A = ℕ × ℕ} (a, b) pairs
  pair_listed a b h =
      let w = any_elim (is_pair a b) pairs h in
      moved a b w.0.0 w.0.1 (eqb-true a w.0.0 (first _ _ w.2)) (eqb-true b w.0.1 (second (nat_eq a w.0.0) _ w.2)) w.1

  listed_pair : (a b : ℕ) → IsMember {A = ℕ × ℕ} (a, b) pairs → IsTrue (list_any (is_pair a b) pairs)
  listed_pair a b m = any_intro (is_pair a b) pairs (a, b) m (both _ _ (eq-eqb a a refl) (eq-eqb b b refl))

  abbrev Decides : (ℕ → ℕ → Bool) → ℕ → Type 0
  Decides leads k = (a b : ℕ) → IsTrue (leads a b) ↔ Via pairs k a b

  step : (leads : ℕ → ℕ → Bool) (k : ℕ) → Decides leads k → Decides (λ a b. leads a b || (leads a k && leads k b)) (k + 1)
  step leads k h = λ a b. (λ t. led_via pairs k a b (there a b (or_cases _ _ t)), λ v. back a b (via_led pairs k a b v))
    where
      there : (a b : ℕ) → IsTrue (leads a b) ⊎ IsTrue (leads a k && leads k b) → Via pairs k a b ⊎ (Via pairs k a k × Via pairs k k b)
      there a b (inl t) = inl ((h a b).0 t)
      there a b (inr t) = inr ((h a k).0 (first _ _ t), (h k b).0 (second (leads a k) _ t))

      back : (a b : ℕ) → Via pairs k a b ⊎ (Via pairs k a k × Via pairs k k b) → IsTrue (leads a b || (leads a k && leads k b))
      back a b (inl v) = let yes : leads a b ≡ true = (h a b).1 v in rw yes refl
      back a b (inr v) =
          let yes : leads a k ≡ true = (h a k).1 v.0 in
          let too : leads k b ≡ true = (h k b).1 v.1 in
          rw (yes, too) (or-true (leads a b))

  leads_via : (k : ℕ) → Decides (leads_through pairs k) k
  leads_via zero = λ a b. (λ h. (via_none pairs a b).1 (pair_listed a b h), λ v. listed_pair a b ((via_none pairs a b).0 v))
  leads_via (suc k) = let one : k + 1 ≡ suc k = omega arith in subst (Decides (leads_through pairs (suc k))) one (step (leads_through pairs k) k (leads_via k))

  -- Where all pairs are below n, the chains through the numbers below n are all chains.
  pub leads_reaches : (n : ℕ) → IsTrue (list_all (is_pair_below n) pairs) → (a b : ℕ) → IsTrue (leads_through pairs n a b) ↔ Reaches pairs a b
  leads_reaches n below a b = (λ h. (via_all pairs n below a b).0 ((leads_via n a b).0 h), λ r. (leads_via n a b).1 ((via_all pairs n below a b).1 r))
