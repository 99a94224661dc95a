-- What holds of the ends of chains.
use Rattle.std.proofs.Common.{subst, arith}
use Rattle.std.specs.Prelude.{◌≡◌, ◌+◌, ℕ, zero, suc, Bool, IsTrue}
use Rattle.order_core.specs.Chains.{IsMonotone, EndsChain, IsLeastEnd}
use Rattle.order_core.specs.Order.{IsOrder}

-- A least end that also ends a longer chain steps to itself.
pub least_steps_to_itself : {A : Type 0} (is_state : A → Bool) (leq : A → A → Bool) (Step : A → A → Type 0) (k : ℕ) (s : A) → IsLeastEnd is_state leq Step k s → EndsChain is_state leq Step (suc k) s → Step s s
least_steps_to_itself is_state leq Step k s h longer = subst (λ x. Step x s) (h.least longer.0 longer.1 longer.2) longer.3

-- Where each step of one kind is one of another, so is each chain.
pub chain_mapped : {A : Type 0} (is_state : A → Bool) (leq : A → A → Bool) (Step Other : A → A → Type 0)
    → ((x y : A) → Step x y → Other x y) → (k : ℕ) (s : A) → EndsChain is_state leq Step k s → EndsChain is_state leq Other k s
chain_mapped is_state leq Step Other f zero s h = h
chain_mapped is_state leq Step Other f (suc k) s h = (h.0, chain_mapped is_state leq Step Other f k h.0 h.1, h.2, f h.0 s h.3)

pub none_more : (k : ℕ) → k ≡ zero + k
none_more k = omega arith

pub one_more : (more k : ℕ) → suc (more + k) ≡ suc more + k
one_more more k = omega arith

-- Where steps lead to states:
module _ {A : Type 0} (is_state : A → Bool) (leq : A → A → Bool) (Step : A → A → Type 0) (states : (x y : A) → IsTrue (is_state x) → Step x y → IsTrue (is_state y)) where
  pub ends_are_states : (k : ℕ) (s : A) → EndsChain is_state leq Step k s → IsTrue (is_state s)
  ends_are_states zero s h = h
  ends_are_states (suc k) s h = states h.0 s (ends_are_states k h.0 h.1) h.3

  -- Where each step between states is one of another kind, so is each chain.
  pub chain_between : (Other : A → A → Type 0) → ((x y : A) → IsTrue (is_state x) → IsTrue (is_state y) → Step x y → Other x y)
      → (k : ℕ) (s : A) → EndsChain is_state leq Step k s → EndsChain is_state leq Other k s
  chain_between Other f zero s h = h
  chain_between Other f (suc k) s h =
      let before = ends_are_states k h.0 h.1 in
      (h.0, chain_between Other f k h.0 h.1, h.2, f h.0 s before (states h.0 s before h.3) h.3)

  -- A longer chain has no new end.
  pub ends_fall : (k : ℕ) (s : A) → EndsChain is_state leq Step (suc k) s → EndsChain is_state leq Step k s
  ends_fall zero s h = states h.0 s h.1 h.3
  ends_fall (suc k) s h = (h.0, ends_fall k h.0 h.1, h.2, h.3)

  -- Where each state is at most itself, too:
  module _ (reflexive : (x : A) → IsTrue (is_state x) → IsTrue (leq x x)) where
    -- An end that steps to itself ends longer chains.
    pub stays : (k : ℕ) (s : A) → EndsChain is_state leq Step k s → Step s s → EndsChain is_state leq Step (suc k) s
    stays k s h step = (s, h, reflexive s (ends_are_states k s h), step)

    -- A state that steps to itself ends a chain of any number of steps.
    pub stands_still : (k : ℕ) (s : A) → IsTrue (is_state s) → Step s s → EndsChain is_state leq Step k s
    stands_still zero s v step = v
    stands_still (suc k) s v step = stays k s (stands_still k s v step) step

    pub stays_least : (k : ℕ) (s : A) → IsLeastEnd is_state leq Step k s → Step s s → IsLeastEnd is_state leq Step (suc k) s
    stays_least k s h step = record { element = stays k s h.element step; least = λ y e. h.least y (ends_fall k y e) }

    -- A least end that steps to itself is one of all longer chains.
    pub stays_for_ever : (more k : ℕ) (s : A) → IsLeastEnd is_state leq Step k s → Step s s → IsLeastEnd is_state leq Step (more + k) s
    stays_for_ever zero k s h step = subst (λ (n : ℕ). IsLeastEnd is_state leq Step n s) (none_more k) h
    stays_for_ever (suc more) k s h step =
        subst (λ (n : ℕ). IsLeastEnd is_state leq Step n s) (one_more more k) (stays_least (more + k) s (stays_for_ever more k s h step) step)

-- Where steps are monotone, what is above an end is an end.
module _ {A : Type 0} (is_state : A → Bool) (leq : A → A → Bool) (Step : A → A → Type 0) (order : IsOrder is_state leq) (monotone : IsMonotone is_state leq Step) where
  pub ends_rise : (k : ℕ) (s t : A) → EndsChain is_state leq Step k s → IsTrue (is_state t) → IsTrue (leq s t) → EndsChain is_state leq Step k t
  ends_rise zero s t h v l = v
  ends_rise (suc k) s t h v l =
      let first = ends_are_states is_state leq Step monotone.states k h.0 h.1 in
      (h.0, h.1, order.transitive h.0 s t first (monotone.states h.0 s first h.3) v h.2 l, monotone.upward h.0 s t first v l h.3)
