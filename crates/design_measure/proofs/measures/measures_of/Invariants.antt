use Rattle.std.proofs.Common.{◌≡◌, ◌<◌, ℕ, Some, length}
use Rattle.std.specs.Prelude.{slice_get}
use Rattle.design_measure.specs.Measured.{told}
use Rattle.design_measure.proofs.measures.measures_of.Given as goal

-- So many are made, each as its forms say.
abbrev pub invariant-loop-at : goal.invariant-loop-at
invariant-loop-at l = (length l.made.items ≡ l.at) × ((j : ℕ) → j < l.at → slice_get l.made.items j ≡ Some (told l.depths.items l.sizes.items j))
