use Rattle.std.proofs.Common.{◌≡◌, ◌∙◌}
use Rattle.std.specs.List.{flat_map}
use Rattle.design_lexer.specs.declared.tree.Side.TheVariants as side
use Rattle.fault_list.specs.AnswersLaws.{answers_weaker}
use Rattle.name_index.specs.Names.{number_of}
use Rattle.side_ports.specs.Sides.{side_ports}
use Rattle.tree_units.specs.Ports.{port_faults}
use Rattle.tree_units.specs.Posets.{poset_place}
use Rattle.unit_check.proofs.table.sides_of.Goals as goal

pub returns : goal.returns
returns c =
    let trees = c.args.trees.now in
    let same : number_of c.posets.result.now ≡ poset_place c.args.names.now.types = λ i. λ name. c.posets.ensures name i in
    answers_weaker _ _ _ _ c.side_ports.result (λ i. flat_map (port_faults (same i)) trees)
    (λ ports made. λ i. record { provides = (made.0 ∙ (λ j. side_ports (same j) side.Provides trees)) i; requires_ = (made.1 ∙ (λ j. side_ports (same j) side.Requires trees)) i }) c.side_ports.ensures
