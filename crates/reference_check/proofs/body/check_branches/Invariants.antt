use Rattle.std.proofs.Common.{◌≡◌, drop, map}
use Rattle.std.specs.List.{flat_map}
use Rattle.reference_check.specs.Fronts.{fronts_held, wanted_held}
use Rattle.reference_rules.specs.ReferenceFaults.{branch_faults, referred}
use Rattle.reference_check.proofs.body.check_branches.Given as goal

-- What is left decides.
abbrev pub invariant-loop-branch : goal.invariant-loop-branch
invariant-loop-branch l =
    flat_map (branch_faults (fronts_held l.scope.names.now.files l.scope.fronts.now) (map wanted_held l.scope.own.now.wanted) (referred (fronts_held l.scope.names.now.files l.scope.fronts.now) (map wanted_held l.scope.own.now.wanted) l.first).ports) l.branches
    ≡ flat_map (branch_faults (fronts_held l.scope.names.now.files l.scope.fronts.now) (map wanted_held l.scope.own.now.wanted) (referred (fronts_held l.scope.names.now.files l.scope.fronts.now) (map wanted_held l.scope.own.now.wanted) l.first).ports) (drop l.branch-index l.branches)
