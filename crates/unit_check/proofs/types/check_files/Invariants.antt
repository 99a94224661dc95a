use Rattle.std.proofs.Common.{◌≡◌, drop}
use Rattle.unit_check.specs.Held.{IsTable}
use Rattle.unit_check.specs.TypeFaults.{rule_faults_from}
use Rattle.unit_check.proofs.types.check_files.Given as goal

-- What is left decides.
abbrev pub invariant-loop-number : goal.invariant-loop-number
invariant-loop-number l =
    IsTable l.names.files l.names.types l.table
    × (rule_faults_from l.names.files l.names.types 0 l.names.files ≡ rule_faults_from l.names.files l.names.types l.number (drop l.number l.names.files))
