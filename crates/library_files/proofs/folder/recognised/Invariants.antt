use Rattle.std.proofs.Common.{◌≡◌, filter}
use Rattle.library_files.specs.Names.{is_recognised}
use Rattle.library_files.proofs.folder.recognised.Given as goal

-- The names so far that are recognised.
abbrev pub invariant-loop-name : goal.invariant-loop-name
invariant-loop-name l = l.kept.items ≡ filter is_recognised l.yielded
