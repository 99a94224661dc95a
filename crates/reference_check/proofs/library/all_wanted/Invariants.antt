use Rattle.std.proofs.Common.{◌≡◌, ◌++◌, drop, map}
use Rattle.reference_check.specs.Fronts.{wanted_held}
use Rattle.reference_check.specs.LibraryFronts.{wanted_of}
use Rattle.unit_check.specs.Held.{IsTable}
use Rattle.reference_check.proofs.library.all_wanted.Given as goal

-- What is made, and what is left, are all of it.
abbrev pub invariant-loop-param : goal.invariant-loop-param
invariant-loop-param l =
    IsTable l.names.files l.names.types l.table
    × (map (wanted_of l.names.files l.names.types) l.params ≡ map wanted_held l.made.items ++ map (wanted_of l.names.files l.names.types) (drop l.param-index l.params))
