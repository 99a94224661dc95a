use Rattle.std.proofs.Common.{◌∙◌, ◌<◌, not, ap, sym, length, arith}
use Rattle.std.proofs.lemmas.List.Filters.{FiltersInPlace-more_no, FiltersInPlace-more_swap}
use Rattle.antichain.specs.ListLaws.{all-drop_more}
use Rattle.antichain.proofs.scan.remove_above.Goals as goal
use Rattle.antichain.proofs.scan.remove_above.Goals.{then-not-leq, else-not-leq}

pub loop-at-preserved : goal.loop-at-preserved
loop-at-preserved g c =
    let inside : c.loop-at.at < length c.loop-at.items.items = omega (arith, c.loop-at.items.ok.0) in
    let values = all-drop_more (g.O.Order.is_value c.args.order.now) c.args.items.now.items c.loop-at.at c.loop-at.invariant.2 in
    elim c.if-not-leq.branch [
      | then-not-leq w ↦ rw (w.items-is, w.kept-is)
          (FiltersInPlace-more_swap c.loop-at.invariant.0 inside (ap not (sym c.leq.ensures ∙ w.if-not-leq.true)) c.index.ensures w.swap.ensures.by_index, omega arith, values)
      | else-not-leq w ↦ rw (w.items-is, w.kept-is)
          (FiltersInPlace-more_no c.loop-at.invariant.0 inside (ap not (sym c.leq.ensures ∙ w.if-not-leq.false)) c.index.ensures, c.loop-at.invariant.1, values)
    ]
