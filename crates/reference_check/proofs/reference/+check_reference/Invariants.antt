use Rattle.std.proofs.Common.{◌≡◌, drop, map}
use Rattle.std.specs.List.{flat_map}
use Rattle.reference_check.specs.Fronts.{fronts_held, wanted_held}
use Rattle.reference_rules.specs.ReferenceFaults.{argument_faults}
use Rattle.reference_rules.specs.ReferenceLaws.{argued}
use Rattle.reference_check.proofs.reference.+check_reference.Given as goal

-- What is left decides.
abbrev pub invariant-check_arguments-loop-argument : goal.invariant-check_arguments-loop-argument
invariant-check_arguments-loop-argument l =
    flat_map (λ a. argument_faults (map wanted_held l.callee.wanted) (argued (fronts_held l.scope.names.now.files l.scope.fronts.now) (map wanted_held l.scope.own.now.wanted) a)) l.arguments
    ≡ flat_map (λ a. argument_faults (map wanted_held l.callee.wanted) (argued (fronts_held l.scope.names.now.files l.scope.fronts.now) (map wanted_held l.scope.own.now.wanted) a)) (drop l.argument-index l.arguments)
