use Rattle.std.proofs.Common.{◌∙◌, ◌++◌, ◌+◌, ap, append_assoc, drop, map}
use Rattle.std.specs.List.{flat_map}
use Rattle.fault_list.specs.FaultLaws.{first_left}
use Rattle.fault_list.specs.Faults.{first_fault}
use Rattle.fault_list.specs.RestLaws.{rest_next}
use Rattle.reference_check.specs.Fronts.{fronts_held, wanted_held}
use Rattle.reference_rules.specs.ReferenceFaults.{branch_faults, differing, referred}
use Rattle.reference_check.proofs.body.check_branches.Goals as goal

pub returns-in-Err : goal.returns-in-Err
returns-in-Err c =
    let front = fronts_held c.args.scope.now.names.now.files c.args.scope.now.fronts.now in
    let params = map wanted_held c.args.scope.now.own.now.wanted in
    let ports = (referred front params c.args.first.now).ports in
    let i = c.loop-branch.branch-index in
    let b = c.branch-item.result in
    let own = (referred front params b.reference).faults in
    let compared = differing ports (referred front params b.reference).ports (referred front params b.reference).at in
    let rest = flat_map (branch_faults front params ports) (drop (i + 1) c.args.branches.now) in
    ap first_fault (rest_next (branch_faults front params ports) c.args.branches.now i b c.loop-branch-test.true c.branch-item.is (flat_map (branch_faults front params ports) c.args.branches.now) c.loop-branch.invariant
    ∙ append_assoc own compared rest ∙ ap (λ fs. fs ++ (compared ++ rest)) c.in_ok-check_reference.ensures.0)
    ∙ first_left c.in-Err.fault compared rest c.in-Err.ensures
