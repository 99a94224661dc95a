use Rattle.order_core.specs.ChainLaws.{ends_fall, ends_rise, least_steps_to_itself, stays_for_ever}
use Rattle.kleene_loop.proofs.laws.chains_rise_fall_and_settle.Goals as goal

pub returns-clause-rise : goal.returns-clause-rise
returns-clause-rise g c = ends_rise (g.O.Order.is_value c.args.order.now) (g.O.Order.leq c.args.order.now) (g.R.Relation.leads c.args.relation.now) (g.met.O.Order.laws c.args.order.now) c.requires

pub returns-clause-fall : goal.returns-clause-fall
returns-clause-fall g c = ends_fall (g.O.Order.is_value c.args.order.now) (g.O.Order.leq c.args.order.now) (g.R.Relation.leads c.args.relation.now) c.requires.states

pub returns-clause-leads : goal.returns-clause-leads
returns-clause-leads g c = least_steps_to_itself (g.O.Order.is_value c.args.order.now) (g.O.Order.leq c.args.order.now) (g.R.Relation.leads c.args.relation.now)

pub returns-clause-stays : goal.returns-clause-stays
returns-clause-stays g c = λ k more s least longer.
    let o = c.args.order.now in
    stays_for_ever (g.O.Order.is_value o) (g.O.Order.leq o) (g.R.Relation.leads c.args.relation.now) c.requires.states (g.met.O.Order.laws o).reflexive more k s least
    (least_steps_to_itself (g.O.Order.is_value o) (g.O.Order.leq o) (g.R.Relation.leads c.args.relation.now) k s least longer)
