use Rattle.ascent_examples.proofs.RowLemmas.{rows_are_monotone}
use Rattle.ascent_examples.proofs.rows.ascend_by_rows.Goals as goal

pub ascend-requires-clause-monotone : goal.ascend-requires-clause-monotone
ascend-requires-clause-monotone g c =
    rw (c.requires.same) (rows_are_monotone (g.O.Order.is_value c.args.order) (g.O.Order.leq c.args.order) (g.met.O.Order.laws c.args.order) c.args.relation.steps c.requires.rows)
