use Rattle.std.proofs.Common.{◌≡◌, []}
use Rattle.kleene_loop.proofs.Steps.{finishes}
use Rattle.kleene_loop.proofs.climb.Climb.finish.Goals as goal

pub returns-clause-ascent : goal.returns-clause-ascent
returns-clause-ascent g c =
    let s = c.self.inside in
    let done : c.self.inside.todo.items ≡ [] = rw (← c.self.view_is) at c.requires in
    rw (← c.self.view_is, c.of.ensures, c.of-2.ensures, c.of-3.ensures)
    (finishes (g.O.Order.is_value s.order) (g.O.Order.leq s.order) (g.R.Relation.leads s.relation) (g.met.O.Order.laws s.order) s.round s.kept.items s.raised.items s.left.items (rw done at c.self.invariant))
