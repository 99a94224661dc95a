use Rattle.std.proofs.Common.{◌≡◌, drop}
use Rattle.std.specs.List.{flat_map}
use Rattle.unit_check.proofs.NetLemmas.{file_faults}
use Rattle.unit_check.proofs.connection.check_connected.Given as goal

-- What is left decides.
abbrev pub invariant-loop-file : goal.invariant-loop-file
invariant-loop-file l = flat_map (file_faults l.names.files) l.names.files ≡ flat_map (file_faults l.names.files) (drop l.file-index l.names.files)
