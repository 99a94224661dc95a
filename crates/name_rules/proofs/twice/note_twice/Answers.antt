use Rattle.std.proofs.Common.{refl, true}
use Rattle.name_rules.proofs.TwiceLemmas.{names_in, names_all, so_far_begins, taken_next}
use Rattle.name_rules.proofs.twice.note_twice.Goals as goal

pub loop-item-init : goal.loop-item-init
loop-item-init g c = rw (c.new-names.ensures, ← names_all g.T.Named.named c.args.items.now) (so_far_begins (names_in g.T.Named.named (λ x. true) c.args.items.now) c.args.first.now)

pub loop-item-preserved : goal.loop-item-preserved
loop-item-preserved g c =
    rw (c.in_ok-note_again.ensures.names, c.in_ok-note_again.ensures.noted, c.name.ensures)
    (taken_next g.T.Named.named (λ x. true) c.args.items.now c.loop-item.item-index c.item-item.result c.loop-item-test.true c.item-item.is c.loop-item.names c.loop-item.first _ refl c.loop-item.invariant)
