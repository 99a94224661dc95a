use Rattle.std.proofs.Common.{refl}
use Rattle.unit_core.proofs.MeasureLemmas.{power-one}
use Rattle.unit_core.specs.UnitTable.{unit_named, units}
use Rattle.unit_core.proofs.laws.units_worked_out.Goals as goal

pub returns : goal.returns
unfolding unit_named units
returns c = record { named = refl; unknown = refl; one = power-one }
