use Rattle.std.proofs.Common.{◌∙◌, ◌-◌, ◌+◌, sym, arith}
use Rattle.unit_core.specs.Measure.{measure, times_measure}
use Rattle.unit_core.proofs.MeasureLemmas.{steps-end, steps-err, steps-ok}
use Rattle.unit_core.proofs.unit.Unit.multiplied.Goals as goal

pub returns-in-Err : goal.returns-in-Err
returns-in-Err c =
    sym (c.loop-step.invariant ∙ steps-err (λ v. times_measure v (measure c.args.self)) _ _ (c.args.count - (c.loop-step._step + 1)) _ (omega arith) c.in-Err.ensures)

pub loop-step-preserved : goal.loop-step-preserved
loop-step-preserved c =
    c.loop-step.invariant ∙ steps-ok (λ v. times_measure v (measure c.args.self)) _ _ (c.args.count - (c.loop-step._step + 1)) _ (omega arith) c.in-Ok.ensures

pub returns : goal.returns
returns c = sym (c.loop-step.invariant ∙ steps-end _ _ _ (omega arith))
