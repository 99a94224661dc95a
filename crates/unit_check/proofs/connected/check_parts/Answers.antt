use Rattle.std.proofs.Common.{◌≡◌, ◌∙◌, ap, not, sym, true, false, Bool}
use Rattle.std.specs.List.{list_all}
use Rattle.design_lexer.specs.declared.tree.BranchTree.{BranchTree}
use Rattle.fault_list.specs.Faults.{fault_if}
use Rattle.fault_list.specs.RestLaws.{rest_first, rest_none}
use Rattle.unit_check.specs.Connection.{unconnected}
use Rattle.unit_check.specs.Declaring.{part_ports}
use Rattle.unit_check.specs.Named.{connected_by}
use Rattle.unit_check.proofs.connected.check_parts.Goals as goal

pub returns-then-not-are_connected : goal.returns-then-not-are_connected
returns-then-not-are_connected c =
    let named = c.args.named.now in
    let part = c.part-item.result in
    let faults = λ (b : BranchTree). fault_if (not (list_all (connected_by named b.name.name) (part_ports c.args.names.now.files c.args.params.now.trees.now b))) (unconnected b.name) in
    let told : not (list_all (connected_by named part.name.name) (part_ports c.args.names.now.files c.args.params.now.trees.now part)) ≡ true =
    (λ i. not (list_all (connected_by named (sym c.as_str.ensures i)) (sym c.part_ports-ports.ensures i))) ∙ ap not (sym c.are_connected.ensures ∙ c.if-not-are_connected.true) in
    rw c.unconnected.ensures (rest_first faults c.args.parts.now c.loop-part.part-index part c.loop-part-test.true c.part-item.is _ c.loop-part.invariant (unconnected part.name) (ap (λ (t : Bool). fault_if t (unconnected part.name)) told))

pub loop-part-preserved : goal.loop-part-preserved
loop-part-preserved c =
    let named = c.args.named.now in
    let part = c.part-item.result in
    let faults = λ (b : BranchTree). fault_if (not (list_all (connected_by named b.name.name) (part_ports c.args.names.now.files c.args.params.now.trees.now b))) (unconnected b.name) in
    let told : not (list_all (connected_by named part.name.name) (part_ports c.args.names.now.files c.args.params.now.trees.now part)) ≡ false =
    (λ i. not (list_all (connected_by named (sym c.as_str.ensures i)) (sym c.part_ports-ports.ensures i))) ∙ ap not (sym c.are_connected.ensures ∙ c.if-not-are_connected.false) in
    rest_none faults c.args.parts.now c.loop-part.part-index part c.loop-part-test.true c.part-item.is _ c.loop-part.invariant (ap (λ (t : Bool). fault_if t (unconnected part.name)) told)
