use Rattle.std.proofs.Common.{◌≡◌, drop, map}
use Rattle.std.specs.List.{flat_map}
use Rattle.fault_list.specs.Faults.{in_file}
use Rattle.reference_check.specs.LibraryFronts.{front_of, library_faults, tree_faults, wanted_of}
use Rattle.unit_check.specs.Declaring.{params_of}
use Rattle.reference_check.proofs.check.check_files.Given as goal

-- What is left decides.
abbrev pub invariant-loop-number : goal.invariant-loop-number
invariant-loop-number l =
    library_faults l.names.files l.names.types
    ≡ flat_map (λ f. in_file f.name (tree_faults (front_of l.names.files l.names.types) (map (wanted_of l.names.files l.names.types) (params_of f.tree)) f.tree)) (drop l.number l.names.files)
