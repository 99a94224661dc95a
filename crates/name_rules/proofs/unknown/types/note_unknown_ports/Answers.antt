use Rattle.design_lexer.specs.declared.tree.PortTree.{PortTree}
use Rattle.name_rules.specs.Unknown.{type_unknown}
use Rattle.name_rules.proofs.NoteLemmas.{left_next}
use Rattle.name_rules.proofs.unknown.types.note_unknown_ports.Goals as goal

pub loop-port-preserved : goal.loop-port-preserved
loop-port-preserved g c =
    left_next (λ (p : PortTree). type_unknown (g.L.Library.known c.args.library.now) p.kind) c.args.ports.now c.loop-port.port-index c.port-item.result c.loop-port-test.true c.port-item.is
    c.loop-port.first c.note_unknown_type.new.first _ c.loop-port.invariant c.note_unknown_type.ensures
