use Rattle.std.proofs.Common.{◌≡◌, ◌∙◌}
use Rattle.design_lexer.specs.declared.tree.Side.TheVariants as side
use Rattle.name_index.specs.Names.{number_of}
use Rattle.side_ports.specs.Sides.{side_ports}
use Rattle.tree_units.specs.Posets.{poset_place}
use Rattle.catalogue_read.proofs.rows.sides_of.Goals as goal

pub returns-in-Ok : goal.returns-in-Ok
returns-in-Ok c =
    let trees = c.args.trees.now in
    let made = c.in-Ok.ensures.1 in
    let same : number_of c.posets.result.now ≡ poset_place c.args.names.now.types = λ i. λ name. c.posets.ensures name i in
    λ i. record { provides = (made.0 ∙ (λ j. side_ports (same j) side.Provides trees)) i; requires_ = (made.1 ∙ (λ j. side_ports (same j) side.Requires trees)) i }
