use Rattle.std.proofs.Common.{◌≡◌, sym}
use Rattle.unit_core.specs.Measure.{measure, one}
use Rattle.unit_core.proofs.MeasureLemmas.{power-one}
use Rattle.unit_core.proofs.unit.Unit.power.Goals as goal

pub returns-then-is_one : goal.returns-then-is_one
returns-then-is_one c =
    let is : measure c.args.self ≡ one = c.is_one.ensures.0 c.if-is_one.true in
    rw is (sym (power-one c.args.n))
