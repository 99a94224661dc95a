use Rattle.std.proofs.Common.{◌≡◌, ◌<◌, ℕ, length}
use Rattle.std.specs.Prelude.{slice_index}
use Rattle.reachability.specs.Reach.{rank}
use Rattle.name_table.proofs.ranks.ranks_of.Given as goal

-- The ranks so far.
abbrev pub invariant-loop-number : goal.invariant-loop-number
invariant-loop-number l = (length l.ranks.items ≡ l.number) × ((k : ℕ) → k < l.number → slice_index l.ranks.items k ≡ rank l.reach k)
