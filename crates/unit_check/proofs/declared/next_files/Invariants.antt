use Rattle.std.proofs.Common.{◌≡◌, ◌++◌, drop, map}
use Rattle.unit_check.specs.Declaring.{next_in}
use Rattle.unit_check.proofs.declared.next_files.Given as goal

-- What is left follows.
abbrev pub invariant-loop-file : goal.invariant-loop-file
invariant-loop-file l = map (λ f. next_in l.names.files f.tree) l.names.files ≡ l.made.items ++ map (λ f. next_in l.names.files f.tree) (drop l.file-index l.names.files)
