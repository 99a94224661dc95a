use Rattle.std.proofs.Common.{◌≡◌, drop, map}
use Rattle.std.specs.List.{flat_map}
use Rattle.reference_check.specs.Fronts.{fronts_held, wanted_held}
use Rattle.reference_rules.specs.ReferenceFaults.{referred}
use Rattle.reference_check.proofs.body.check_instances.Given as goal

-- What is left decides.
abbrev pub invariant-loop-instance : goal.invariant-loop-instance
invariant-loop-instance l =
    flat_map (λ b. (referred (fronts_held l.scope.names.now.files l.scope.fronts.now) (map wanted_held l.scope.own.now.wanted) b.reference).faults) l.instances
    ≡ flat_map (λ b. (referred (fronts_held l.scope.names.now.files l.scope.fronts.now) (map wanted_held l.scope.own.now.wanted) b.reference).faults) (drop l.instance-index l.instances)
