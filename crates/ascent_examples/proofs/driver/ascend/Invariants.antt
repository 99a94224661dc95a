use Rattle.std.proofs.Common.{◌≡◌, ◌+◌, ◌-◌, ◌≤◌}
use Rattle.ascent_examples.proofs.driver.ascend.Given as goal

abbrev pub invariant-rounds : goal.invariant-rounds
invariant-rounds g l = record { order : l.climb.order ≡ l.fn.order; relation : l.climb.relation ≡ l.fn.relation; round : l.climb.round + 1 ≤ l.rounds; suits : g.W.Outcomes.suits l.work l.fn.order l.fn.relation }

abbrev pub decreases-rounds : goal.decreases-rounds
decreases-rounds g l = l.rounds - l.climb.round
