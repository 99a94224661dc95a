use Rattle.std.proofs.Common.{◌≡◌, ◌<◌, ◌+◌, ℕ, length}
use Rattle.std.specs.Prelude.{slice_index}
use Rattle.unit_check.specs.Follow.{follow}
use Rattle.unit_check.specs.Following.{next_at}
use Rattle.unit_check.proofs.declared.declaring_files.Given as goal

-- The numbers so far.
abbrev pub invariant-loop-file : goal.invariant-loop-file
invariant-loop-file l = (length l.made.items ≡ l.file) × ((k : ℕ) → k < l.file → slice_index l.made.items k ≡ follow (next_at l.nexts-inside.items.items) (l.size + 1) k)
