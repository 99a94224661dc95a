-- A net in which no part reads itself, directly or through further parts, has no cut signal.
use Rattle.std.specs.Prelude.{ℕ, Bool, IsTrue}
use Rattle.model_laws.specs.Cycles.{LeadsTo}

-- The part reads itself, directly or through further parts.
abbrev pub ReadsItself : (ℕ → ℕ → Bool) → ℕ → Type 0
ReadsItself reads p = LeadsTo (λ a b. IsTrue (reads a b)) p p
