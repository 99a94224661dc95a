use Rattle.unit_core.specs.FractionLaws.{same_fraction}
use Rattle.unit_core.proofs.laws.same_fraction.Goals as goal

pub returns : goal.returns
returns c = same_fraction
