use Rattle.std.proofs.Common.{◌≡◌, [], add-one}
use Rattle.kleene_loop.proofs.Steps.{turns}
use Rattle.kleene_loop.proofs.climb.Climb.turn.Goals as goal

pub invariant_of-self : goal.invariant_of-self
invariant_of-self g c =
    let s = c.self.inside in
    let done : c.self.inside.todo.items ≡ [] = rw (← c.self.view_is) at c.requires.done in
    rw (add-one, c.replace-raised.ensures.after, c.new.ensures.items, c.from.ensures.0, c.replace-raised.ensures.value, c.clear.ensures.items)
    (turns (g.O.Order.is_value s.order) (g.O.Order.leq s.order) (g.R.Relation.leads s.relation) (g.met.O.Order.laws s.order) s.round s.kept.items s.raised.items s.left.items (rw done at c.self.invariant))
