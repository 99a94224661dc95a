use Rattle.std.proofs.Common.{◌≡◌, ◌++◌, drop}
use Rattle.ascent_examples.specs.Rows.{ends_from}
use Rattle.ascent_examples.proofs.rows.ends.Given as goal

-- What was found, and what is left to find.
abbrev pub invariant-loop-step : goal.invariant-loop-step
invariant-loop-step g l =
    ends_from (g.O.Order.leq l.order) l.steps l.point ≡ l.found.items ++ ends_from (g.O.Order.leq l.order) (drop l.step-index l.steps) l.point
