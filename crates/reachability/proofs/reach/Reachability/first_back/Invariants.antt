use Rattle.std.proofs.Common.{◌<◌, ℕ, IsTrue}
use Rattle.reachability.specs.Reach.{reach}
use Rattle.reachability.proofs.reach.Reachability.first_back.Given as goal

-- No number so far leads back to itself.
abbrev pub invariant-loop-number : goal.invariant-loop-number
invariant-loop-number l = (j : ℕ) → j < l.number → IsTrue (reach l.self j j) → ⊥
