-- A statement that is known to hold or known not to.
use Rattle.std.specs.Prelude.{◌⊎◌}

-- It holds, or it doesn't.
abbrev pub Decided : Type 0 → Type 0
Decided P = P ⊎ (P → ⊥)
