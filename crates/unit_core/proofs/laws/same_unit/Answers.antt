use Rattle.unit_core.specs.FractionLaws.{same_unit}
use Rattle.unit_core.proofs.laws.same_unit.Goals as goal

pub returns : goal.returns
returns c = same_unit
