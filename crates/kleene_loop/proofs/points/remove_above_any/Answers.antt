use Rattle.std.proofs.Common.{◌∙◌, ◌<◌, not, ap, sym, length, arith}
use Rattle.std.proofs.lemmas.List.Filters.{FiltersInPlace-more_no, FiltersInPlace-more_swap}
use Rattle.antichain.specs.ListLaws.{all-drop_more}
use Rattle.kleene_loop.proofs.points.remove_above_any.Goals as goal
use Rattle.kleene_loop.proofs.points.remove_above_any.Goals.{then-not-some_below, else-not-some_below}

pub loop-at-preserved : goal.loop-at-preserved
loop-at-preserved g c =
    let inside : c.loop-at.at < length c.loop-at.items.items = omega (arith, c.loop-at.items.ok.0) in
    let values = all-drop_more (g.O.Order.is_value c.args.order.now) c.args.items.now.items c.loop-at.at c.loop-at.invariant.1 in
    elim c.if-not-some_below.branch [
      | then-not-some_below w ↦ rw (w.items-is, w.kept-is)
          (FiltersInPlace-more_swap c.loop-at.invariant.0 inside (ap not (sym c.some_below.ensures ∙ w.if-not-some_below.true)) c.index.ensures w.swap.ensures.by_index, values)
      | else-not-some_below w ↦ rw (w.items-is, w.kept-is)
          (FiltersInPlace-more_no c.loop-at.invariant.0 inside (ap not (sym c.some_below.ensures ∙ w.if-not-some_below.false)) c.index.ensures, values)
    ]
