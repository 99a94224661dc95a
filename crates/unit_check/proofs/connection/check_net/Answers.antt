use Rattle.std.proofs.Common.{◌∙◌, ◌++◌, ap, sym, List}
use Rattle.std.specs.List.{flat_map}
use Rattle.fault_list.specs.AnswersLaws.{answers_weaker}
use Rattle.fault_list.specs.declared.fault.Fault.{Fault}
use Rattle.unit_check.proofs.NetLemmas.{own_same, parts_same}
use Rattle.unit_check.specs.Connection.{part_unconnected}
use Rattle.unit_check.proofs.connection.check_net.Goals as goal

pub returns : goal.returns
returns c =
    let parts = c.args.parts.now in
    let rules = c.args.rules.now in
    let files = c.args.names.now.files in
    let params = c.in_ok-params.params.trees.now in
    let same = c.in_ok-params.ensures in
    let named = c.in_ok-named.named in
    let tells = c.in_ok-named.ensures in
    let rest = flat_map (part_unconnected files c.args.params.now rules) parts in
    let own = sym (own_same parts rules named tells c.args.ports.now) ∙ c.in_ok-check_own.ensures.0 in
    answers_weaker _ _ _ _ c.check_parts.result (parts_same parts rules named tells files params ∙ (λ i. flat_map (part_unconnected files (same i) rules) parts) ∙ sym (ap (λ (fs : List Fault). fs ++ rest) own)) (λ x h. h) c.check_parts.ensures
