use Rattle.std.proofs.Common.{◌≡◌, drop}
use Rattle.unit_check.specs.Declaring.{named_file}
use Rattle.unit_check.proofs.declared.named_file.Given as goal

-- What is left decides.
abbrev pub invariant-loop-param : goal.invariant-loop-param
invariant-loop-param l = named_file l.names.files l.params l.name ≡ named_file l.names.files (drop l.param-index l.params) l.name
