-- Counts of failed calls, and what a call's result says of them.
use Rattle.std.proofs.Common.{arith}
use Rattle.std.specs.Prelude.{ℕ, ◌-◌, ◌^◌, ◌≤◌, ◌<◌, ◌⊎◌}
use Rattle.design_world.specs.Fault.{Rose}

-- what a count that rose means
pub rose_means : (before now : ℕ) → Rose before now → (before < now) ⊎ (2 ^ 64 - 1 ≤ now)
rose_means before now rose = grind arith
