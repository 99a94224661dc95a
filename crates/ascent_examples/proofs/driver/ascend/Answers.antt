use Rattle.std.proofs.Common.{◌≡◌, ◌∙◌, ◌-◌, ◌≤◌, arith}
use Rattle.kleene_loop.specs.SettledLaws.{settled_from}
use Rattle.kleene_loop.specs.FirstLaws.{empty_of_none}
use Rattle.ascent_examples.proofs.Results.{if_both}
use Rattle.ascent_examples.proofs.driver.ascend.Goals as goal

pub returns-then-round-rounds-clause-ascent : goal.returns-then-round-rounds-clause-ascent
returns-then-round-rounds-clause-ascent g c =
    let order : c.ask_all.new.climb.order ≡ c.args.order = cc in
    let relation : c.ask_all.new.climb.relation ≡ c.args.relation = cc in
    let round : c.ask_all.new.climb.round ≡ c.args.rounds - 1 = omega arith in
    rw (order, relation, round) at c.finish.ensures.ascent

pub finish-requires-then-is_none : goal.finish-requires-then-is_none
finish-requires-then-is_none g c = empty_of_none c.turn.new.self.todo c.next.result c.next.ensures.first c.if-is_none.ensures

pub returns-then-is_none-clause-ascent : goal.returns-then-is_none-clause-ascent
returns-then-is_none-clause-ascent g c =
    let order : c.turn.new.self.order ≡ c.args.order = cc in
    let relation : c.turn.new.self.relation ≡ c.args.relation = cc in
    let within : c.turn.new.self.round ≤ c.args.rounds - 1 = omega arith in
    let ascent = rw (order, relation) at c.finish-then-is_none.ensures.ascent in
    if_both c.finish-then-is_none.result _ _ _
    (λ a h e. settled_from (g.O.Order.is_value c.args.order) (g.O.Order.leq c.args.order) (g.R.Relation.leads c.args.relation) c.requires.monotone c.turn.new.self.round (c.args.rounds - 1) a.settled a.fresh a.left within h (e ∙ c.turn.ensures.left))
    ascent c.finish-then-is_none.ensures.left
