use Rattle.std.proofs.Common.{◌≡◌, ◌-◌}
use Rattle.unit_core.specs.Measure.{measure, one, steps, over_measure}
use Rattle.unit_core.proofs.unit.Unit.divided.Given as goal

-- The steps that are left lead from here to the same.
abbrev pub invariant-loop-step : goal.invariant-loop-step
invariant-loop-step l =
    steps (λ v. over_measure v (measure l.self)) l.count one ≡ steps (λ v. over_measure v (measure l.self)) (l.count - l._step) (measure l.made)
