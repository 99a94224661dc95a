-- What holds of the ends of chains of a monotone relation.
use Rattle.std.proofs.Common.{◌≡◌, sym, subst, arith, ◌+◌, ◌-◌, ◌<◌, ℕ, zero, suc, Bool, IsTrue, List}
use Rattle.order_core.specs.ChainLaws as chain
use Rattle.order_core.specs.Chains.{IsMonotone, EndsChain, IsLeastEnd}
use Rattle.order_core.specs.Members.{IsMember}
use Rattle.order_core.specs.Order.{IsOrder}
use Rattle.antichain.specs.Basis.{IsBasis}
use Rattle.kleene_loop.specs.New.{IsNew}

module _ {A : Type 0} (is_value : A → Bool) (leq : A → A → Bool) (leads : A → A → Type 0) (laws : IsOrder is_value leq) (monotone : IsMonotone is_value leq leads) where
  abbrev S : ℕ → A → Type 0
  S = EndsChain is_value leq leads

  pub ends_values : (k : ℕ) (t : A) → S k t → IsTrue (is_value t)
  ends_values = chain.ends_are_states is_value leq leads monotone.states

  pub ends_upward : (k : ℕ) (t u : A) → S k t → IsTrue (is_value u) → IsTrue (leq t u) → S k u
  ends_upward = chain.ends_rise is_value leq leads laws monotone

  pub ends_fall : (k : ℕ) (t : A) → S (suc k) t → S k t
  ends_fall = chain.ends_fall is_value leq leads monotone.states

  pub self_stays : (k : ℕ) (x : A) → S k x → leads x x → S (suc k) x
  self_stays = chain.stays is_value leq leads monotone.states laws.reflexive

  -- a least end that ends a longer chain is a least end of it
  pub least_stays : (k : ℕ) (x : A) → IsLeastEnd is_value leq leads k x → S (suc k) x → IsLeastEnd is_value leq leads (suc k) x
  least_stays k x h s = record { element = s; least = λ y e. h.least y (ends_fall k y e) }

  -- by a basis, each longer chain's end is above a member that leads to it
  pub ends_above : (k : ℕ) (xs : List A) → IsBasis leq (S k) xs → (t : A) → S (suc k) t → (a : A) × IsMember a xs × IsTrue (leq a t) × leads a t
  ends_above k xs b t s =
      let below = b.complete s.0 s.1 in
      let av = ends_values k below.0 (b.elements below.0 below.1) in
      let sv = ends_values k s.0 s.1 in
      (below.0, below.1, laws.transitive below.0 s.0 t av sv (ends_values (suc k) t s) below.2 s.2, monotone.falling below.0 s.0 t av sv below.2 s.3)

  -- d steps more
  abbrev after : ℕ → ℕ → ℕ
  after zero j = j
  after (suc d) j = suc (after d j)

  -- a least end that still ends longer chains is a least end of them
  least_after : (d j : ℕ) (x : A) → IsLeastEnd is_value leq leads j x → S (after d j) x → IsLeastEnd is_value leq leads (after d j) x
  least_after zero j x h s = h
  least_after (suc d) j x h s = least_stays (after d j) x (least_after d j x h (ends_fall (after d j) x s)) s

  after_is : (d j : ℕ) → after d j ≡ d + j
  after_is zero j = omega arith
  after_is (suc d) j = let ih = after_is d j in omega (arith, ih)

  -- a point that is new in a round was a least end of no round before
  pub new_once : (j k : ℕ) (x : A) → j < k → IsLeastEnd is_value leq leads j x → IsLeastEnd is_value leq leads k x → IsNew is_value leq leads k x → ⊥
  new_once j zero x l h g n = absurd (omega (arith, l))
  new_once j (suc k) x l h g n =
      let same : k ≡ after (k - j) j = let e = after_is (k - j) j in omega (arith, e, l) in
      let s : S (after (k - j) j) x = subst (λ (i : ℕ). S i x) same (ends_fall k x g.element) in
      n (subst (λ (i : ℕ). IsLeastEnd is_value leq leads i x) (sym same) (least_after (k - j) j x h s))
