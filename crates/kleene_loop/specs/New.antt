-- Points that are new in a round.
use Rattle.std.specs.Prelude.{ℕ, zero, suc, Bool}
use Rattle.order_core.specs.Chains.{IsLeastEnd}

-- No least end of the round before. In round 0 each point is new.
abbrev pub IsNew : {A : Type 0} → (A → Bool) → (A → A → Bool) → (A → A → Type 0) → ℕ → A → Type 0
IsNew is_value leq leads zero x = Unit {0}
IsNew is_value leq leads (suc k) x = IsLeastEnd is_value leq leads k x → ⊥
