use Rattle.std.proofs.Common.{◌≡◌, length}
use Rattle.ascent_examples.proofs.driver.ask_all.Given as goal

abbrev pub invariant-points : goal.invariant-points
invariant-points g l = record { order : l.climb.order ≡ l.initial.climb.order; relation : l.climb.relation ≡ l.initial.climb.relation; round : l.climb.round ≡ l.initial.climb.round; suits : g.W.Outcomes.suits l.work l.initial.climb.order l.initial.climb.relation }

abbrev pub decreases-points : goal.decreases-points
decreases-points g l = length l.climb.todo
