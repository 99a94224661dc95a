use Rattle.std.proofs.Common.{length, ◌∙◌, ◌<◌, ◌^◌}
use Rattle.std.proofs.lemmas.List.{length-map}
use Rattle.value_type.specs.PortKinds.{port_kinds}
use Rattle.design_model.specs.declared.design.Part.{Part}
use Rattle.design_model.specs.Evaluation.{part_reads}
use Rattle.design_model.specs.Parts.{provided_ports}
use Rattle.cut_plan.specs.NetsLaws.{net_is}
use Rattle.cut_plan.specs.OrderLaws.{turns_order}
use Rattle.cut_plan.proofs.SignalLemmas.{order_few, cuts_listed}
use Rattle.cut_plan.proofs.cuts.cuts_of.Goals as goal
use Rattle.order_core.specs.PointwiseLaws.{all_each}

pub in_32_bits-requires : goal.in_32_bits-requires
in_32_bits-requires c =
    let n = length c.in-Net.parts in
    let few = rw (c.in-Net.is, net_is) at c.requires.few_parts in
    let order = rw (c.items.ensures, c.items-in-Net.ensures) at c.in_ok-plan-in-Net.ensures.order in
    rw (c.as_slice.ensures.value, order) (all_each (λ p. p < 2 ^ 32) _ (λ k d h. order_few n _ (turns_order (part_reads c.in-Net.constraints) n) few k d h))

pub returns-clause-order : goal.returns-clause-order
returns-clause-order c =
    let order = rw (c.items.ensures, c.items-in-Net.ensures) at c.in_ok-plan-in-Net.ensures.order in
    rw (c.in-Net.is, net_is, length-map c.in-Net.parts (λ (p : Part). port_kinds (provided_ports p.design))) (c.in_ok-order-in-Net.ensures ∙ c.as_slice.ensures.value ∙ order)

pub returns-clause-signals : goal.returns-clause-signals
returns-clause-signals c =
    let cut = rw (c.items.ensures, c.items-in-Net.ensures) at c.in_ok-plan-in-Net.ensures.cut in
    rw (c.in-Net.is, net_is) (c.of.ensures ∙ rw (c.items-in-Net-2.ensures, c.as_slice-in-Net.ensures.value) at c.in_ok-signals-in-Net.ensures
    ∙ cuts_listed c.in-Net.provides c.in-Net.requires_ c.in-Net.parts c.in-Net.constraints c.in_ok-plan-in-Net.plan.cut.items cut)
