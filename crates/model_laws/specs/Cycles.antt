-- Chains of a relation, and where they must close.
use Rattle.std.specs.Prelude.{ℕ, zero, suc}

-- A chain of n further items leads from a to b.
abbrev pub Leads : {A : Type 0} → (A → A → Type 0) → ℕ → A → A → Type 0
Leads R zero a b = R a b
Leads {A = A} R (suc n) a b = (m : A) × R a m × Leads R n m b

-- Some chain leads from a to b, directly or through further items.
abbrev pub LeadsTo : {A : Type 0} → (A → A → Type 0) → A → A → Type 0
LeadsTo R a b = (n : ℕ) × Leads R n a b
