use Rattle.kleene_loop.proofs.Ends.{new_once}
use Rattle.kleene_loop.proofs.laws.points_are_asked_once.Goals as goal

pub returns : goal.returns
returns g c = new_once (g.O.Order.is_value c.args.order.now) (g.O.Order.leq c.args.order.now) (g.R.Relation.leads c.args.relation.now) (g.met.O.Order.laws c.args.order.now) c.requires
