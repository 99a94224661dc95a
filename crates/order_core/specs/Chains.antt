-- Chains of rising states, each of which a step leads to from the one before.
use Rattle.std.specs.Prelude.{ℕ, zero, suc, Bool, IsTrue}
use Rattle.order_core.specs.Minimal.{IsMinimal}

-- Steps lead to states. What a greater state steps to, a lesser one steps to as well. A state steps to all states above one that it steps to.
pub record IsMonotone {A : Type 0} (is_state : A → Bool) (leq : A → A → Bool) (Step : A → A → Type 0) : Type 0 where
  pub states : (x y : A) → IsTrue (is_state x) → Step x y → IsTrue (is_state y)
  pub falling : (x y z : A) → IsTrue (is_state x) → IsTrue (is_state y) → IsTrue (leq x y) → Step y z → Step x z
  pub upward : (x y z : A) → IsTrue (is_state x) → IsTrue (is_state z) → IsTrue (leq y z) → Step x y → Step x z

-- The state ends a chain of k steps: a list of k + 1 states, the first of them any state. Each later one is at least the one before it, and a step leads to it from there.
abbrev pub EndsChain : {A : Type 0} → (A → Bool) → (A → A → Bool) → (A → A → Type 0) → ℕ → A → Type 0
EndsChain is_state leq Step zero s = IsTrue (is_state s)
EndsChain {A = A} is_state leq Step (suc k) s = (before : A) × EndsChain is_state leq Step k before × IsTrue (leq before s) × Step before s

-- It ends a chain of k steps, and no other state that does is at most it.
abbrev pub IsLeastEnd : {A : Type 0} → (A → Bool) → (A → A → Bool) → (A → A → Type 0) → ℕ → A → Type 0
IsLeastEnd is_state leq Step k s = IsMinimal leq (EndsChain is_state leq Step k) s

-- Each state that ends a chain of k steps ends one of k + 1 steps, so that a further step changes nothing.
abbrev pub IsSteady : {A : Type 0} → (A → Bool) → (A → A → Bool) → (A → A → Type 0) → ℕ → Type 0
IsSteady {A = A} is_state leq Step k = (s : A) → EndsChain is_state leq Step k s → EndsChain is_state leq Step (suc k) s
