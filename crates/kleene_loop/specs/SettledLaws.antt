-- Ascents that leave no point stay as they are in all later rounds.
use Rattle.std.proofs.Common.{◌≡◌, ◌+◌, ◌-◌, ◌≤◌, ℕ, zero, suc, Bool, List, [], subst, arith}
use Rattle.order_core.specs.ChainLaws as chain
use Rattle.order_core.specs.Chains.{IsMonotone, EndsChain, IsLeastEnd, IsSteady}
use Rattle.order_core.specs.Members.{IsMember}
use Rattle.kleene_loop.specs.Ascent.{IsAscent}

module _ {A : Type 0} (is_value : A → Bool) (leq : A → A → Bool) (leads : A → A → Type 0) (monotone : IsMonotone is_value leq leads) where
  abbrev S : ℕ → A → Type 0
  S = EndsChain is_value leq leads

  abbrev Least : ℕ → A → Type 0
  Least = IsLeastEnd is_value leq leads

  fall : (k : ℕ) (t : A) → S (suc k) t → S k t
  fall = chain.ends_fall is_value leq leads monotone.states

  still : (k : ℕ) → IsSteady is_value leq leads k → IsSteady is_value leq leads (suc k)
  still k h t s = (s.0, h s.0 s.1, s.2, s.3)

  least_later : (k : ℕ) → IsSteady is_value leq leads k → (x : A) → Least k x → Least (suc k) x
  least_later k h x l = record { element = h x l.element; least = λ y s. l.least y (fall k y s) }

  least_sooner : (k : ℕ) → IsSteady is_value leq leads k → (x : A) → Least (suc k) x → Least k x
  least_sooner k h x l = record { element = fall k x l.element; least = λ y s. l.least y (h y s) }

  settled_next : (k : ℕ) (settled fresh left : List A) → IsAscent is_value leq leads k settled fresh left → left ≡ [] → IsAscent is_value leq leads (suc k) settled fresh left
  settled_next k settled fresh left a e =
      let h : IsSteady is_value leq leads k = a.steady.0 e in
      record {
        in_settled = λ x. ((λ m. let w = (a.in_settled x).0 m in (least_later (suc k) (still k h) x w.0, w.0)), λ w. (a.in_settled x).1 (w.1, least_sooner k h x w.1));
        in_fresh = λ x. ((λ m. absurd (subst (IsMember x) (a.none_fresh e) m)), λ w. absurd (w.1 (least_sooner (suc k) (still k h) x w.0)));
        in_left = λ x. ((λ m. absurd (subst (IsMember x) e m)), λ w. absurd (w.1 (still k h x w.0.element)));
        stays = a.stays;
        once = a.once;
        steady = ((λ e2. still k h), λ s. e);
        complete = λ t s. a.complete t (fall (suc k) t s);
        none_fresh = a.none_fresh;
      }

  settled_after : (d k : ℕ) (settled fresh left : List A) → IsAscent is_value leq leads k settled fresh left → left ≡ [] → IsAscent is_value leq leads (d + k) settled fresh left
  settled_after zero k settled fresh left a e = subst (λ (j : ℕ). IsAscent is_value leq leads j settled fresh left) (omega arith) a
  settled_after (suc d) k settled fresh left a e =
      subst (λ (j : ℕ). IsAscent is_value leq leads j settled fresh left) (omega arith) (settled_next (d + k) settled fresh left (settled_after d k settled fresh left a e) e)

  pub settled_from : (k n : ℕ) (settled fresh left : List A) → k ≤ n → IsAscent is_value leq leads k settled fresh left → left ≡ [] → IsAscent is_value leq leads n settled fresh left
  settled_from k n settled fresh left l a e =
      subst (λ (j : ℕ). IsAscent is_value leq leads j settled fresh left) (omega (arith, l)) (settled_after (n - k) k settled fresh left a e)
