use Rattle.std.proofs.Common.{[]}
use Rattle.design_lexer.specs.declared.tree.Side.TheVariants.{Provides, Requires}
use Rattle.name_rules.specs.Twice.{port_names, repeats}
use Rattle.order_core.specs.ResultLaws.{on_ok}
use Rattle.name_rules.proofs.NoteLemmas.{noted_both}
use Rattle.name_rules.proofs.twice.note_twice_ports.Goals as goal

pub returns : goal.returns
returns c =
    on_ok _ _ c.note_twice_side-2.result
    (noted_both (repeats [] (port_names Provides c.args.ports.now)) (repeats [] (port_names Requires c.args.ports.now)) c.args.first.now c.note_twice_side.new.first c.note_twice_side-2.new.first c.in_ok-note_twice_side.ensures)
    c.note_twice_side-2.ensures
