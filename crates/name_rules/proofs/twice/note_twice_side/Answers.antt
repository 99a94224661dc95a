use Rattle.std.proofs.Common.{◌∙◌, sym}
use Rattle.design_lexer.specs.Sides.{same_side}
use Rattle.design_lexer.specs.declared.tree.PortTree.{PortTree}
use Rattle.name_rules.proofs.TwiceLemmas.{taken_next, left_out_next}
use Rattle.name_rules.proofs.twice.note_twice_side.Goals as goal
use Rattle.name_rules.proofs.twice.note_twice_side.Goals.{then-is_same+in_ok-note_again, else-is_same}

pub loop-port-preserved : goal.loop-port-preserved
loop-port-preserved c =
    let v = c.loop-port.invariant in
    elim c.if-is_same.branch [
      | then-is_same+in_ok-note_again w ↦
          rw (w.names-is, w.first-is, w.in_ok-note_again.ensures.names, w.in_ok-note_again.ensures.noted)
          (taken_next (λ (p : PortTree). p.name) (λ (p : PortTree). same_side c.args.side p.side) c.args.ports.now c.loop-port.port-index c.port-item.result c.loop-port-test.true c.port-item.is c.loop-port.names c.loop-port.first _ (sym c.is_same.ensures ∙ w.if-is_same.true) v)
      | else-is_same w ↦
          rw (w.names-is, w.first-is)
          (left_out_next (λ (p : PortTree). p.name) (λ (p : PortTree). same_side c.args.side p.side) c.args.ports.now c.loop-port.port-index c.port-item.result c.loop-port-test.true c.port-item.is c.loop-port.names c.loop-port.first _ (sym c.is_same.ensures ∙ w.if-is_same.false) v)
    ]
