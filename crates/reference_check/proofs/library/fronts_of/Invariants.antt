use Rattle.std.proofs.Common.{◌≡◌, ◌++◌, drop, map}
use Rattle.reference_check.proofs.FrontLemmas.{held_in}
use Rattle.reference_check.specs.LibraryFronts.{fronts_from}
use Rattle.unit_check.specs.Held.{IsTable}
use Rattle.reference_check.proofs.library.fronts_of.Given as goal

-- What is made, and what is left, are all of it.
abbrev pub invariant-loop-number : goal.invariant-loop-number
invariant-loop-number l =
    IsTable l.names.files l.names.types l.table
    × (fronts_from l.names.files l.names.types 0 l.names.files ≡ map held_in l.made.items ++ fronts_from l.names.files l.names.types l.number (drop l.number l.names.files))
